-- Plans of lost power: what an operation does to a plan, how each kind of operation reads a choice, and what it then leaves. Assumes nothing.
use Rattle.std.specs.Prelude.{ℕ, zero, suc, ◌+◌, ◌-◌, ◌^◌, min, Bool, true, false, cond, List, length, Some, None, Ok, Err, Option, Result, ◌==◌}
use Rattle.device.specs.LogStores.{LogModel, state, with_slot, new_slot}
use Rattle.device.specs.PageStores.{PageModel, with_page, without_power}
use Rattle.script.specs.declared.plan.Choice.{Choice}
use Rattle.script.specs.declared.plan.Choice.TheVariants.{Old, New, Before, After, Count}
use Rattle.script.specs.declared.plan.Loss.{Loss}
use Rattle.script.specs.declared.plan.PowerPlan.{PowerPlan}

-- power is lost in the operation of this number, counted from 1; 0: in none
abbrev pub lost_at : ℕ → Choice → Option Loss
lost_at zero choice = None
lost_at (suc after) choice = Some (record { after = after; choice = choice })

abbrev pub planned : Option Loss → ℕ → PowerPlan
planned loss raise = record { loss = loss; raise = raise; operations = 0 }

-- one operation nearer; when it has come nothing more is lost
abbrev pub nearer : Option Loss → Option Loss
nearer None = None
nearer (Some l) = lost_at l.after l.choice

-- an operation more is counted, up to the largest number of 32 bits
abbrev pub advanced : PowerPlan → PowerPlan
advanced p = record { loss = nearer p.loss; raise = p.raise; operations = min (p.operations + 1) (2 ^ 32 - 1) }

-- what is lost in the next operation
abbrev pub lost_now : Option Loss → Option Choice
lost_now None = None
lost_now (Some l) = cond (l.after == 0) (Some l.choice) None

-- the next operation loses power where its turn has come
abbrev pub loss : PowerPlan → Option Choice
loss p = lost_now p.loss

-- with Old a lost write leaves the old page, else the new one
abbrev pub keeps_old : Choice → Bool
keeps_old Old = true
keeps_old New = false
keeps_old Before = false
keeps_old After = false
keeps_old (Count n) = false

-- with Before a lost append leaves no slot, else its own
abbrev pub stops_before : Choice → Bool
stops_before Old = false
stops_before New = false
stops_before Before = true
stops_before After = false
stops_before (Count n) = false

-- how many unforced slots a lost force leaves forced
abbrev pub standing : Choice → ℕ
standing Old = 0
standing New = 0
standing Before = 0
standing After = 0
standing (Count n) = n

-- what an operation answers, with the fault that a loss is
abbrev pub answered : {F : Type 0} → Option Choice → F → Result (Unit {0}) F
answered None fault = Ok tt
answered (Some c) fault = Err fault

-- what a write of a page that is there leaves
abbrev pub left_by_write : Option Choice → PageModel → ℕ → List ℕ → PageModel
left_by_write None m at page = with_page m at page
left_by_write (Some c) m at page = cond (keeps_old c) (without_power m) (without_power (with_page m at page))

-- a slot more at the end, and the forced count raised, at most to the length
abbrev pub with_raise : LogModel → List ℕ → ℕ → Bool → LogModel
with_raise m slot raise powered = state m (with_slot m slot) (min (m.forced + raise) (new_slot m)) powered

-- what an append leaves where the capacity has room
abbrev pub left_by_append : Option Choice → ℕ → LogModel → List ℕ → LogModel
left_by_append None raise m slot = with_raise m slot raise m.powered
left_by_append (Some c) raise m slot = cond (stops_before c) (state m m.slots m.forced false) (with_raise m slot raise false)

abbrev pub left_by_force : Option Choice → LogModel → LogModel
left_by_force None m = state m m.slots (length m.slots) m.powered
left_by_force (Some c) m = state m m.slots (min (m.forced + standing c) (length m.slots)) false
