use Rattle.std.proofs.Common.{◌≡◌, suc, ◌<◌, length, arith}
use Rattle.std.proofs.lemmas.Grind.{common_steps}
use Rattle.recovery_log.proofs.summary.Summary.note.Goals as goal

pub returns : goal.returns
returns g c = λ L old.
    let number : c.in_ok-number.number ≡ suc (length L) = grind (arith, common_steps, old.slots) in
    let few : length L < 4294967295 = grind (arith, common_steps, old.slots) in
    record {
      slots = number;
      jobs = c.in_ok-note_job.ensures L few old.jobs;
      pages = c.in_ok-note_page.ensures L old.pages;
      misfits = c.note_misfit.ensures L few old.misfits;
      kinds = c.note_kind.ensures L few old.kinds;
      newest = c.newest-self.ensures L number (rw c.as_ref.ensures.value old.draft) old.newest;
      draft = c.in_ok-self.ensures L number (rw c.take.ensures.value old.draft);
    }
