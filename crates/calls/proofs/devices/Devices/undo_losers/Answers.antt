use Rattle.std.proofs.Common.{rules, ◌≡◌, ◌+◌, suc, Ok, Err, Some, None, subst, refl, arith}
use Rattle.rules.specs.Restart.{latest, undone, goes_on, end_idle}
use Rattle.rules.specs.State.{Working}
use Rattle.calls.specs.TakingBack.{EndsJobs}
use Rattle.calls.proofs.Appending.{kept_by}
use Rattle.calls.proofs.Undoing.{broken_off, still_powered, turns_begin, breaks_first, turns_end, turn_breaks, turn_done}
use Rattle.calls.proofs.devices.Devices.undo_losers.Goals as goal

pub returns-in_err-end_idle : goal.returns-in_err-end_idle
returns-in_err-end_idle g c =
    let m = g.K.Change.meaning in
    let d = c.args.self.now in
    let x : Working = record { copies = c.args.copies.now; jobs = c.args.jobs.now; first = 1 } in
    let why : c.from_residual.result ≡ Err c.in_err-end_idle.field-0.0 = search rules in
    broken_off m (undone m d x) c.end_idle.new.jobs c.args.copies.now _ why
    (breaks_first m x d c.end_idle.new.jobs
    (subst (λ xs. EndsJobs m (λ capacity u. end_idle m capacity xs (goes_on m u)) d c.args.jobs.now (Err c.in_err-end_idle.field-0.0) c.end_idle.new.self c.end_idle.new.jobs) c.copied-count.ensures.value c.in_err-end_idle.ensures))

pub loop-entry-init : goal.loop-entry-init
loop-entry-init g c =
    let m = g.K.Change.meaning in
    let d = c.args.self.now in
    let x : Working = record { copies = c.args.copies.now; jobs = c.args.jobs.now; first = 1 } in
    record {
      last = c.log_length-last.ensures.value;
      left = turns_begin m x d c.end_idle.new.jobs
          (subst (λ xs. EndsJobs m (λ capacity u. end_idle m capacity xs (goes_on m u)) d c.args.jobs.now (Ok (tt {0})) c.end_idle.new.self c.end_idle.new.jobs) c.copied-count.ensures.value c.in_ok-end_idle.ensures);
    }

pub undo_change-requires : goal.undo_change-requires
undo_change-requires g c =
    let i = c.loop-entry.invariant in
    let longer = (kept_by g.K.Change.meaning i.left.undid.work_done.appended).longer in
    (still_powered g.K.Change.meaning i.left.undid c.requires, let e = i.last in omega arith)

pub returns-in_err-undo_change : goal.returns-in_err-undo_change
returns-in_err-undo_change g c =
    let m = g.K.Change.meaning in
    let i = c.loop-entry.invariant in
    let x : Working = record { copies = c.args.copies.now; jobs = c.args.jobs.now; first = 1 } in
    let why : c.from_residual-in_err-undo_change.result ≡ Err c.in_err-undo_change.field-0.0 = search rules in
    let is : latest c.loop-entry.jobs ≡ Some c.in-Some.entry = search rules in
    broken_off m (undone m c.args.self.now x) c.undo_change.new.jobs c.undo_change.new.copies _ why
    (turn_breaks m x c.args.self.now i.left c.in-Some.entry is c.log_length-last.result i.last c.undo_change.new.jobs c.undo_change.new.copies c.in_err-undo_change.ensures.turns)

pub loop-entry-preserved : goal.loop-entry-preserved
loop-entry-preserved g c =
    let m = g.K.Change.meaning in
    let i = c.loop-entry.invariant in
    let x : Working = record { copies = c.args.copies.now; jobs = c.args.jobs.now; first = 1 } in
    let is : latest c.loop-entry.jobs ≡ Some c.in-Some.entry = search rules in
    let one : suc c.loop-entry.compensations ≡ c.loop-entry.compensations + 1 = omega arith in
    record {
      last = i.last;
      left = rw (← one) (turn_done m x c.args.self.now i.left c.in-Some.entry is c.log_length-last.result i.last c.undo_change.new.jobs c.undo_change.new.copies c.in_ok-undo_change.ensures.turns);
    }

pub returns : goal.returns
returns g c =
    let m = g.K.Change.meaning in
    let i = c.loop-entry.invariant in
    let x : Working = record { copies = c.args.copies.now; jobs = c.args.jobs.now; first = 1 } in
    let none : latest c.loop-entry.jobs ≡ None = search rules in
    turns_end m x c.args.self.now i.left none refl
