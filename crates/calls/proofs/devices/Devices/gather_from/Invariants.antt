use Rattle.std.proofs.Common.{◌≡◌, ◌≤◌, pred, Ok}
use Rattle.rules.specs.Restart.{tables, gather}
use Rattle.calls.proofs.Scans.{so_far}
use Rattle.calls.proofs.devices.Devices.gather_from.Given as goal

abbrev pub invariant-loop-number : goal.invariant-loop-number
invariant-loop-number g l = (l.fn.from ≤ l.number) × (l.number ≤ l.fn.end)
    × (so_far l.fn.from gather (tables l.fn.jobs l.fn.dirty) g.K.Change.meaning l.self (pred l.number) ≡ Ok (tables l.jobs l.dirty))
