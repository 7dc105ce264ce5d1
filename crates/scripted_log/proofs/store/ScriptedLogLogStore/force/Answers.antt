use Rattle.std.proofs.Common.{◌≡◌, ◌+◌, ◌≤◌, min, true, length, Some, None, Option, refl, arith, rules}
use Rattle.device.specs.LogStores.{LogModel, LogForced}
use Rattle.device.specs.declared.log_store.LogFault.TheVariants.{PowerLost}
use Rattle.script.specs.ScriptedPlans.{answered, left_by_force, standing}
use Rattle.script.specs.declared.plan.Choice.{Choice}
use Rattle.scripted_log.specs.ScriptedLog.{model}
use Rattle.scripted_log.proofs.store.ScriptedLogLogStore.force.Goals as goal

forced_by_plan : (m : LogModel) (loss : Option Choice) → m.powered ≡ true → m.forced ≤ length m.slots
    → LogForced m (answered loss (PowerLost (length m.slots))) (left_by_force loss m)
forced_by_plan m None power held = LogForced.done power refl (rw power refl)
forced_by_plan m (Some c) power held = LogForced.lost power (min (m.forced + standing c) (length m.slots)) (omega arith) (omega arith) refl refl

pub returns : goal.returns
returns c =
    let outcome = forced_by_plan (model c.args.self.now) c.operation-loss.result (search rules) c.args.self.now.sound.held in
    rw (c.force_or_lose.ensures.value, c.force_or_lose.ensures.after) outcome
