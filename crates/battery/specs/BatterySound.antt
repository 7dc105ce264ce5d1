-- Battery memory is a sound page store and a sound log store, whatever its struct holds. Assumes nothing.
use Rattle.std.specs.Prelude.{◌≡◌, ℕ, zero, suc, ◌<◌, ◌≤◌, min, List, [], ◌∷◌, map, length, take, slice_index_or}
use Rattle.std.proofs.Common.{arith, length-take}
use Rattle.std.proofs.lemmas.List.{length-map}
use Rattle.format.specs.Bytes.{Bytes}
use Rattle.device.specs.Memory.{as_bytes, as_bytes_size, as_bytes_small}
use Rattle.device.specs.PageStores.{SoundPages}
use Rattle.device.specs.LogStores.{SoundLog}
use Rattle.battery.specs.Batteries.{Held, room}
use Rattle.battery.specs.BatteryStores.{most_pages, most_slots, rows, pages_model, log_model}

pub each_row : (n : ℕ) (xs : List (List ℕ)) (i : ℕ) → i < length (map (as_bytes n) xs) → Bytes n (slice_index_or (map (as_bytes n) xs) i [])
each_row n [] i h = absurd (omega arith)
each_row n (x ∷ xs) zero h = record { size = as_bytes_size n x; small = as_bytes_small n x }
each_row n (x ∷ xs) (suc i) h = each_row n xs i (omega arith)

pub length_rows : {most : ℕ} (n : ℕ) (h : Held (List ℕ) most) → length (rows n h) ≡ min h.used (length h.cells)
length_rows n h = let m = length-map (take h.used h.cells) (as_bytes n) in let t = length-take h.used h.cells in omega arith

pub sound_pages : (h : Held (List ℕ) most_pages) → h.used ≤ room h → SoundPages (pages_model h)
sound_pages h in_room = record { few = let e = length_rows 256 h in omega arith; each = each_row 256 (take h.used h.cells) }

pub sound_log : (h : Held (List ℕ) most_slots) → h.used ≤ room h → h.forced ≤ h.used → SoundLog (log_model h)
sound_log h in_room in_used = let e = length_rows 60 h in record {
  held = omega arith;
  room = omega arith;
  numbers = omega arith;
  each = each_row 60 (take h.used h.cells);
}

-- with any numbers, brought into range; those of every store are in range
abbrev pub in_range : {most : ℕ} → Held (List ℕ) most → Held (List ℕ) most
in_range h = record h { used = min h.used (room h); forced = min h.forced (min h.used (room h)) }

pub sound_pages_any : (h : Held (List ℕ) most_pages) → SoundPages (pages_model (in_range h))
sound_pages_any h = sound_pages (in_range h) (omega arith)

pub sound_log_any : (h : Held (List ℕ) most_slots) → SoundLog (log_model (in_range h))
sound_log_any h = sound_log (in_range h) (omega arith) (omega arith)
