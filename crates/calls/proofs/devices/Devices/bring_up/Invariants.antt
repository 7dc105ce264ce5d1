use Rattle.std.proofs.Common.{◌≡◌, ◌≤◌, ◌<◌, pred}
use Rattle.rules.specs.State.{log_length}
use Rattle.calls.specs.Readers.{read_up_to}
use Rattle.calls.specs.TakingBack.{brought_up}
use Rattle.calls.proofs.devices.Devices.bring_up.Given as goal

abbrev pub invariant-loop-number : goal.invariant-loop-number
invariant-loop-number g l = record {
  begun : 0 < l.number;
  from : l.fn.first ≤ l.number;
  until : l.number-end ≡ log_length l.self;
  so_far : l.copies ≡ brought_up g.K.Change.meaning l.holds (read_up_to g.K.Change.meaning l.self l.first (pred l.number)) l.fn.copies;
}
