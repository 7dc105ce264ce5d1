use Rattle.std.proofs.Common.{◌≡◌, Some, rules, arith}
use Rattle.std.proofs.lemmas.Grind.{common_steps}
use Rattle.std.specs.Option.{option_map}
use Rattle.format.specs.declared.slot.Slot.TheVariants.{Record}
use Rattle.recovery_log.proofs.JobSteps.{by_record}
use Rattle.recovery_log.proofs.jobs.note_job.Goals as goal

pub returns-in_ok-jobs-in-Some-Record : goal.returns-in_ok-jobs-in-Some-Record
returns-in_ok-jobs-in-Some-Record g c = λ L few old.
    let r = c.in-Some-Record.record in
    let is : option_map (λ x. x.now) c.args.slot ≡ Some (Record r) = search rules in
    rw is (record {
      ordered = search rules;
      each = λ j. grind (arith, common_steps, old.each j, by_record L r few);
      named = λ j. grind (arith, common_steps, old.named j);
    })
