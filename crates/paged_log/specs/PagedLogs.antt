-- A log on pages: what pages of any bytes say, and what an append makes of them. Assumes nothing.
use Rattle.std.specs.Prelude.{◌≡◌, ℕ, zero, suc, ◌+◌, ◌*◌, ◌/◌, ◌%◌, min, Bool, true, false, cond, ◌&&◌, List, [], ◌∷◌, ◌++◌, length, take, drop, replicate, Ok, Err, Result, ◌==◌, nat_lt, slice_index_or, slice_set}
use Rattle.std.specs.Str.{bytes_eq}
use Rattle.format.specs.Bytes.{number_at, spelled}
use Rattle.device.specs.declared.page_store.PageFault.{PageFault}
use Rattle.device.specs.declared.page_store.PageFault.TheVariants.{PowerLost}
use Rattle.paged_log.specs.declared.PagedLog.{PagedLog}
use Rattle.device.specs.PageStores.{PageModel}
use Rattle.device.specs.LogStores.{LogModel}
use Rattle.device.specs.Memory.{as_bytes}

-- how many of the page's slots are part of the log
abbrev pub count_of : List ℕ → ℕ
count_of page = min (number_at page 0) 4

-- the slot at a place from 0 to 3
abbrev pub slot_in : List ℕ → ℕ → List ℕ
slot_in page place = take 60 (drop (60 * place) (drop 16 page))

-- four slots to a page, numbered from 0 through all pages
abbrev pub slot_at : List (List ℕ) → ℕ → List ℕ
slot_at pages n = slot_in (slice_index_or pages (n / 4) []) (n % 4)

abbrev pub first_slots : List (List ℕ) → ℕ → List (List ℕ)
first_slots pages zero = []
first_slots pages (suc n) = first_slots pages n ++ slot_at pages n ∷ []

-- the log ends in the first page whose count is below 4
abbrev pub log_length : List (List ℕ) → ℕ
log_length [] = 0
log_length (page ∷ pages) = cond (nat_lt (count_of page) 4) (count_of page) (4 + log_length pages)

-- the log that the pages say
abbrev pub log_of : List (List ℕ) → List (List ℕ)
log_of pages = first_slots pages (log_length pages)

-- slot n is part of its page and has these bytes
abbrev pub stands : List (List ℕ) → ℕ → List ℕ → Bool
stands pages n slot = nat_lt (n % 4) (count_of (slice_index_or pages (n / 4) [])) && bytes_eq (slot_at pages n) slot

-- The slots of a log with a remembered length, and how many of them are forced. Power is lost only in an append, and the log then
-- has the slot of that append at its end; it is forced exactly where the pages have it.
abbrev pub held : Bool → List (List ℕ) → ℕ → List ℕ → List (List ℕ)
held true pages n last = first_slots pages n
held false pages zero last = []
held false pages (suc n) last = first_slots pages n ++ last ∷ []

abbrev pub sure : Bool → List (List ℕ) → ℕ → List ℕ → ℕ
sure true pages n last = n
sure false pages zero last = 0
sure false pages (suc n) last = cond (stands pages n last) (suc n) n

abbrev pub room : PageModel → ℕ
room m = 4 * length m.pages

-- a log over pages with this model, its numbers brought into range
abbrev pub paged : PageModel → ℕ → List ℕ → LogModel
paged m len last = record {
  capacity = room m;
  slots = held m.powered m.pages (min len (room m)) (as_bytes 60 last);
  forced = sure m.powered m.pages (min len (room m)) (as_bytes 60 last);
  powered = m.powered;
}

-- the log over pages that are found, with power
abbrev pub found : PageModel → LogModel
found m = record { capacity = room m; slots = log_of m.pages; forced = log_length m.pages; powered = true }

-- of a log over any page store, with that store's model
abbrev pub model_of : {P : Type 0} → (P → PageModel) → PagedLog P → LogModel
model_of pages s = paged (pages s.pages) s.len s.last

-- The pages say the forced slots and no other: a log that is made over them again has what power-on would leave.
abbrev pub Says : PageModel → LogModel → Type 0
Says m l = log_of m.pages ≡ take l.forced l.slots

abbrev pub Agrees : {P : Type 0} → (P → PageModel) → PagedLog P → Type 0
Agrees pages s = Says (pages s.pages) (model_of pages s)

abbrev pub blank : List ℕ
blank = replicate 256 0

-- a page that gets a slot: the count, zeros to byte 15, and the slot at its place; the other slots stay
abbrev pub page_with : List ℕ → ℕ → List ℕ → List ℕ
page_with page place slot = spelled (suc place) ++ (replicate 12 0 ++
    (take (60 * place) (drop 16 page) ++ (slot ++ drop (60 * place + 60) (drop 16 page))))

-- before a page gets its fourth slot the next page is blank, so that nothing old in it becomes part of the log
abbrev pub room_made : List (List ℕ) → ℕ → List (List ℕ)
room_made pages n = cond (n % 4 == 3) (slice_set pages (suc (n / 4)) blank) pages

abbrev pub put_slot : List (List ℕ) → ℕ → List ℕ → List (List ℕ)
put_slot pages n slot = slice_set pages (n / 4) (page_with (slice_index_or pages (n / 4) []) (n % 4) slot)

abbrev pub at_power : Bool → List (List ℕ) → PageModel
at_power powered pages = record { pages = pages; powered = powered }

-- the pages once a log of this length has one slot more
abbrev pub appended : PageModel → ℕ → List ℕ → PageModel
appended m len slot = at_power true (put_slot (room_made m.pages (min len (room m))) (min len (room m)) slot)

-- a change of the pages is made, or power is lost in it and it is made or not
pub data Made (before : List (List ℕ)) (new : List (List ℕ)) (r : Result (Unit {0}) PageFault) (after : PageModel) : Type 0 where
  done : r ≡ Ok tt → after ≡ at_power true new → Made before new r after
  lost : (page : ℕ) → r ≡ Err (PowerLost page) → after ≡ at_power false before → Made before new r after
  lost_new : (page : ℕ) → r ≡ Err (PowerLost page) → after ≡ at_power false new → Made before new r after

-- slot n is put, first room and then the slot, or power is lost on the way
pub data SlotPut (before : List (List ℕ)) (n : ℕ) (slot : List ℕ) (r : Result (Unit {0}) PageFault) (after : PageModel) : Type 0 where
  room_lost : (page : ℕ) → r ≡ Err (PowerLost page) → after ≡ at_power false before → SlotPut before n slot r after
  put : Made (room_made before n) (put_slot (room_made before n) n slot) r after → SlotPut before n slot r after
