use Rattle.std.proofs.Common.{List, drop, ℕ}
use Rattle.format.specs.declared.page.Page.{Page}
use Rattle.rules.specs.Restart.{Undoing}
use Rattle.rules.specs.State.{Devices}
use Rattle.calls.specs.TakingBack.{UndoingDone}
use Rattle.calls.proofs.Undoing.{Idled}
use Rattle.calls.proofs.devices.Devices.end_idle.Given as goal

abbrev pub invariant-loop-loser : goal.invariant-loop-loser
invariant-loop-loser g l = (d : Devices) (u : Undoing g.row.K.Denot) (copies : List Page) (c : ℕ) → UndoingDone g.K.Change.meaning d u l.fn.self l.fn.jobs copies c
    → Idled g.K.Change.meaning d u l.losers (drop l.loser-index l.losers) l.self l.jobs copies c
