use Rattle.std.proofs.Common.{◌≡◌, ◌≤◌, ◌<◌, pred, []}
use Rattle.rules.specs.State.{log_length}
use Rattle.calls.specs.Readers.{read_up_to}
use Rattle.calls.proofs.devices.Devices.read_from.Given as goal

abbrev pub invariant-loop-number : goal.invariant-loop-number
invariant-loop-number g l = (0 < l.number) × (l.fn.first ≤ l.number) × (l.number-end ≡ log_length l.self)
    × (g.R.Reader.says l.fn.reader l.fn.reader [] → g.R.Reader.says l.fn.reader l.reader (read_up_to g.K.Change.meaning l.self l.fn.first (pred l.number)))
