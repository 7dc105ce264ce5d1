use Rattle.std.proofs.Common.{◌≡◌, ◌≤◌, ◌<◌, pred, Ok}
use Rattle.rules.specs.State.{log_length}
use Rattle.calls.proofs.Redoing.{replay_to}
use Rattle.calls.proofs.devices.Devices.replay_from.Given as goal

abbrev pub invariant-loop-number : goal.invariant-loop-number
invariant-loop-number g l = (0 < l.number) × (l.fn.from ≤ l.number) × (l.number-end ≡ log_length l.self) × (l.count < l.number)
    × (replay_to g.K.Change.meaning l.self l.dirty l.fn.from l.fn.copies (pred l.number) ≡ Ok (record { copies = l.copies; count = l.count }))
