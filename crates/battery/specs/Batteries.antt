-- What battery memory holds, and what each operation makes of it, for elements of any type. Assumes nothing.
use Rattle.std.specs.Prelude.{◌≡◌, ℕ, zero, suc, ◌+◌, ◌-◌, min, Bool, true, false, cond, List, Option, Some, None, length, ◌==◌, slice_set}
use Rattle.battery.specs.declared.PowerCut.{PowerCut}
use Rattle.battery.specs.declared.Battery.{Battery}

-- of a store of `most` elements at most: the loan that the cells are, so that their lender has them back as they are here;
-- the cells; how many of them are in use, and how many of those stand when power is lost; the cut to come
pub record Held (E : Type 0) (most : ℕ) : Type 0 where
  pub loan : ℕ
  pub cells : List E
  pub used : ℕ
  pub forced : ℕ
  pub powered : Bool
  pub cut : Option PowerCut

abbrev pub held : {E : Type 0} {most : ℕ} → Battery E most → Held E most
held b = record { loan = b.cells.ghost_name; cells = b.cells.now; used = b.used; forced = b.forced; powered = b.powered; cut = b.cut }

-- at the making there is power, and what is in use stands
abbrev pub made : {E : Type 0} {most : ℕ} → ℕ → List E → ℕ → Option PowerCut → Held E most
made loan cells used cut = record { loan = loan; cells = cells; used = used; forced = used; powered = true; cut = cut }

-- how many elements there may be
abbrev pub room : {E : Type 0} {most : ℕ} → Held E most → ℕ
room {most = most} h = min (length h.cells) most

-- power is lost in the write or force of this number, counted from 1, and at 0 in none
abbrev pub cut_at : ℕ → ℕ → Option PowerCut
cut_at zero stands = None
cut_at (suc n) stands = Some (record { after = n; stands = stands })

-- power is lost in this write or force
abbrev pub cuts_now : Option PowerCut → Bool
cuts_now None = false
cuts_now (Some c) = c.after == 0

-- the cut after this write or force: it is one nearer, and once it was this one there is none
abbrev pub next_cut : Option PowerCut → Option PowerCut
next_cut None = None
next_cut (Some c) = cut_at c.after c.stands

-- the cut after so many writes or forces
abbrev pub cut_after : ℕ → Option PowerCut → Option PowerCut
cut_after zero c = c
cut_after (suc n) c = next_cut (cut_after n c)

-- counted from 1, power is lost in those of these numbers, and in no other
abbrev pub LostIn : Option PowerCut → (ℕ → Bool) → Type 0
LostIn c numbers = (n : ℕ) → cuts_now (cut_after n c) ≡ numbers (suc n)

-- the number that was set
abbrev pub is_set : Option PowerCut → ℕ → Bool
is_set None n = false
is_set (Some c) n = suc c.after == n

-- power is lost in the one whose number was set, and in no other
abbrev pub LostOnce : Option PowerCut → Type 0
LostOnce c = LostIn c (is_set c)

-- how many stand of the new elements that this write or force brings
abbrev pub standing : Option PowerCut → ℕ → ℕ
standing None new = new
standing (Some c) new = cond (c.after == 0) (min new c.stands) new

-- a write or force is counted, and power is lost in it if it is the one
abbrev pub counted : {E : Type 0} {most : ℕ} → Held E most → List E → ℕ → Held E most
counted h cells forced = record h { cells = cells; forced = forced; powered = cond (cuts_now h.cut) false h.powered; cut = next_cut h.cut }

-- a write brings one element
abbrev pub written : {E : Type 0} {most : ℕ} → ℕ → E → Held E most → Held E most
written at element h = counted h (cond (standing h.cut 1 == 0) h.cells (slice_set h.cells at element)) h.forced

-- a force brings the elements in use that are not forced yet
abbrev pub forced_on : {E : Type 0} {most : ℕ} → Held E most → Held E most
forced_on h = counted h h.cells (h.forced + standing h.cut (h.used - h.forced))

-- an append is not counted, and forces nothing
abbrev pub appended : {E : Type 0} {most : ℕ} → E → Held E most → Held E most
appended element h = record h { cells = slice_set h.cells h.used element; used = h.used + 1 }

-- power comes back; the cut to come stays
abbrev pub on_again : {E : Type 0} {most : ℕ} → Held E most → Held E most
on_again h = record h { powered = true }

-- and only the forced elements are in use
abbrev pub cut_back : {E : Type 0} {most : ℕ} → Held E most → Held E most
cut_back h = record h { used = h.forced; powered = true }
