use Rattle.std.proofs.Common.{◌≡◌, ℕ, ◌+◌, ◌<◌, ◌≤◌, min, Bool, true, false, cond, List, length, Some, None, Err, Option, refl, arith, rules}
use Rattle.device.specs.LogStores.{LogModel, SlotAppended, state, new_slot}
use Rattle.device.specs.declared.log_store.LogFault.TheVariants.{PowerLost}
use Rattle.script.specs.ScriptedPlans.{answered, with_raise, left_by_append, stops_before}
use Rattle.script.specs.declared.plan.Choice.{Choice}
use Rattle.scripted_log.specs.ScriptedLog.{model}
use Rattle.scripted_log.proofs.store.ScriptedLogLogStore.append.Goals as goal

module _ (m : LogModel) (slot : List ℕ) (raise : ℕ) (power : m.powered ≡ true) (room : length m.slots < m.capacity) (held : m.forced ≤ length m.slots) where
  appended_by_plan : (loss : Option Choice) → SlotAppended m slot (answered loss (PowerLost (new_slot m))) (left_by_append loss raise m slot)
  appended_by_plan None = SlotAppended.done power room (min (m.forced + raise) (new_slot m)) (omega arith) (omega arith) refl (rw power refl)
  appended_by_plan (Some c) = go (stops_before c)
    where
      go : (b : Bool) → SlotAppended m slot (Err (PowerLost (new_slot m))) (cond b (state m m.slots m.forced false) (with_raise m slot raise false))
      go true = SlotAppended.lost_before power room m.forced (omega arith) held refl refl
      go false = SlotAppended.lost_after power room (min (m.forced + raise) (new_slot m)) (omega arith) (omega arith) refl refl

pub returns : goal.returns
returns c =
    let now = c.args.self.now in
    let put = c.append_or_lose.ensures in
    rw (put.value, put.after) (appended_by_plan (model now) c.args.bytes.now c.raise-raise.result (search rules) (omega arith) now.sound.held c.operation-loss.result)
