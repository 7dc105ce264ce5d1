use Rattle.std.proofs.Common.{◌≡◌, ◌-◌, suc}
use Rattle.rules.specs.State.{log_length}
use Rattle.calls.proofs.Undoing.{Left}
use Rattle.calls.proofs.devices.Devices.undo_losers.Given as goal

abbrev pub decreases-loop-entry : goal.decreases-loop-entry
decreases-loop-entry g l = suc l.fn.self.log.capacity - l.compensations

abbrev pub invariant-loop-entry : goal.invariant-loop-entry
invariant-loop-entry g l = record {
  last : l.last ≡ log_length l.fn.self;
  left : Left g.K.Change.meaning (record { copies = l.fn.copies; jobs = l.fn.jobs; first = 1 }) l.fn.self l.self l.jobs l.copies l.compensations;
}
