use Rattle.std.proofs.Common.{◌≡◌, ◌≤◌, ◌<◌, pred, drop}
use Rattle.rules.specs.Reading.{last_end, last_end_from}
use Rattle.rules.specs.State.{slots, next_slot}
use Rattle.calls.proofs.devices.Devices.last_end.Given as goal

abbrev pub invariant-loop-number : goal.invariant-loop-number
invariant-loop-number g l = (0 < l.number) × (l.number ≤ l.number-end) × (l.number-end ≡ next_slot l.self) × (l.found < l.number)
    × (last_end (slots l.self) ≡ last_end_from l.number l.found (drop (pred l.number) (slots l.self)))
