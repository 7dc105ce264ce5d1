use Rattle.std.proofs.Common.{◌≡◌, ◌≤◌, pred, Ok}
use Rattle.rules.specs.Restart.{tables, analyse}
use Rattle.rules.specs.State.{next_slot}
use Rattle.calls.proofs.Scans.{so_far}
use Rattle.calls.proofs.devices.Devices.analyse_from.Given as goal

abbrev pub invariant-loop-number : goal.invariant-loop-number
invariant-loop-number g l = (l.fn.begin ≤ l.number) × (l.number ≤ l.number-end) × (l.number-end ≡ next_slot l.self)
    × (so_far l.fn.begin analyse (tables l.fn.jobs l.fn.dirty) g.K.Change.meaning l.self (pred l.number) ≡ Ok (tables l.jobs l.dirty))
