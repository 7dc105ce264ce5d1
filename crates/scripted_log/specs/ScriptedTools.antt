-- What tools read and set in the memory of a log store, by its number, whether or not there is power. Assumes nothing.
use Rattle.std.specs.Prelude.{ℕ, zero, suc, pred, Bool, false, List, None, Option, is_some, slice_get, slice_set}
use Rattle.device.specs.LogStores.{LogModel, state, with_slot, new_slot}

-- slots are numbered from 1 on
abbrev pub slot_at : List (List ℕ) → ℕ → Option (List ℕ)
slot_at slots zero = None
slot_at slots (suc place) = slice_get slots place

abbrev pub has_slot : List (List ℕ) → ℕ → Bool
has_slot slots n = is_some (slot_at slots n)

abbrev pub with_slot_set : LogModel → ℕ → List ℕ → LogModel
with_slot_set m n slot = state m (slice_set m.slots (pred n) slot) m.forced m.powered

-- a slot more at the end, and all of them forced
abbrev pub with_slot_forced : LogModel → List ℕ → LogModel
with_slot_forced m slot = state m (with_slot m slot) (new_slot m) m.powered

abbrev pub without_power : LogModel → LogModel
without_power m = state m m.slots m.forced false
