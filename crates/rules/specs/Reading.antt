-- The log as the server reads it: bytes become slots, and passes go over them one by one. Assumes nothing.
use Rattle.std.specs.Prelude.{ℕ, suc, cond, List, [], ◌∷◌, None, Ok, Err, Option, Result, ◌==◌, nat_le, nat_lt, slice_index}
use Rattle.std.specs.Result.{result_ok}
use Rattle.format.specs.declared.slot.Slot.{Slot}
use Rattle.format.specs.Changes.{Meaning}
use Rattle.format.specs.declared.slot.kind.SlotKind.TheVariants.{CheckpointEnd}
use Rattle.format.specs.Slots.{kind_number, read_slot}
use Rattle.recovery_log.specs.Log.{Log, new_number}
use Rattle.rules.specs.declared.refusal.Refusal.{Refusal}

module _ {C : Type 0} where
  -- slot n of a log over size pages; a slot before the first that is read says nothing
  abbrev pub slot_at : Meaning C → ℕ → ℕ → ℕ → List ℕ → Option (Slot C)
  slot_at m size first n b = cond (nat_lt n first) None (result_ok (read_slot m size n b))

  abbrev pub read_on : Meaning C → ℕ → ℕ → Log C → List (List ℕ) → Log C
  read_on m size first L [] = L
  read_on m size first L (b ∷ bs) = read_on m size first (slot_at m size first (new_number L) b ∷ L) bs

  -- what the bytes of a log say from slot `first` on
  abbrev pub known : Meaning C → ℕ → ℕ → List (List ℕ) → Log C
  known m size first slots = read_on m size first [] slots

  -- the slot of a number; nothing outside the log
  abbrev pub at : Log C → ℕ → Option (Slot C)
  at [] n = None
  at (x ∷ L) n = cond (n == new_number L) x (at L n)

  -- the log up to a number
  abbrev pub up_to : ℕ → Log C → Log C
  up_to n [] = []
  up_to n (x ∷ L) = cond (nat_le (new_number L) n) (x ∷ L) (up_to n L)

-- a step after what came before it, unless that was refused
abbrev pub then : {A B E : Type 0} → Result A E → (A → Result B E) → Result B E
then (Ok a) f = f a
then (Err e) f = Err e

-- the slots from a number on, one after the other; the first that is refused decides
abbrev pub scan : {C S : Type 0} → ℕ → (ℕ → Option (Slot C) → S → Result S Refusal) → S → Log C → Result S Refusal
scan from f s [] = Ok s
scan from f s (x ∷ L) = cond (nat_lt (new_number L) from) (Ok s) (then (scan from f s L) (f (new_number L) x))

-- the number of the last slot whose first byte says checkpoint end, or 0
abbrev pub last_end_from : ℕ → ℕ → List (List ℕ) → ℕ
last_end_from n found [] = found
last_end_from n found (b ∷ bs) = last_end_from (suc n) (cond (slice_index b 0 == kind_number CheckpointEnd) n found) bs

abbrev pub last_end : List (List ℕ) → ℕ
last_end slots = last_end_from 1 0 slots
