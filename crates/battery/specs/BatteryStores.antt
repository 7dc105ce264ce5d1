-- Battery memory as a page store and as a log store, and its own rule of when power is lost. Assumes nothing.
use Rattle.std.specs.Prelude.{◌≡◌, ℕ, ◌<◌, ◌≤◌, true, false, List, map, take, is_ok, Ok, Err, Result}
use Rattle.device.specs.declared.page_store.PageFault.{PageFault}
use Rattle.device.specs.declared.page_store.PageFault.TheVariants as page
use Rattle.device.specs.declared.log_store.LogFault.{LogFault}
use Rattle.device.specs.declared.log_store.LogFault.TheVariants as slot
use Rattle.device.specs.Memory.{as_bytes}
use Rattle.device.specs.PageStores.{PageModel}
use Rattle.device.specs.LogStores.{LogModel}
use Rattle.battery.specs.Batteries.{Held, room, cuts_now, written, forced_on, appended}

abbrev pub most_pages : ℕ
most_pages = 65536

-- so that the number after the last slot fits four bytes
abbrev pub most_slots : ℕ
most_slots = 4294967294

-- the rows of n bytes in use
abbrev pub rows : {most : ℕ} → ℕ → Held (List ℕ) most → List (List ℕ)
rows n h = map (as_bytes n) (take h.used h.cells)

abbrev pub pages_model : Held (List ℕ) most_pages → PageModel
pages_model h = record { pages = rows 256 h; powered = h.powered }

abbrev pub log_model : Held (List ℕ) most_slots → LogModel
log_model h = record { capacity = room h; slots = rows 60 h; forced = h.forced; powered = h.powered }

-- A write loses power if it is the one that was set, with the page old or new as set, and else never.
-- One that finds no power or no such page alters nothing and is not counted.
pub data BatteryWrote (before : Held (List ℕ) most_pages) (at : ℕ) (bytes : List ℕ) (r : Result (Unit {0}) PageFault) (after : Held (List ℕ) most_pages) : Type 0 where
  no_power : before.powered ≡ false → r ≡ Err (page.PowerLost at) → after ≡ before → BatteryWrote before at bytes r after
  outside : before.powered ≡ true → before.used ≤ at → r ≡ Err page.Outside → after ≡ before → BatteryWrote before at bytes r after
  done : before.powered ≡ true → at < before.used → cuts_now before.cut ≡ false
      → r ≡ Ok tt → after ≡ written at bytes before → BatteryWrote before at bytes r after
  lost : before.powered ≡ true → at < before.used → cuts_now before.cut ≡ true
      → r ≡ Err (page.PowerLost at) → after ≡ written at bytes before → BatteryWrote before at bytes r after

-- an append never loses power and forces nothing
pub data BatteryAppended (before : Held (List ℕ) most_slots) (bytes : List ℕ) (r : Result (Unit {0}) LogFault) (after : Held (List ℕ) most_slots) : Type 0 where
  refused : is_ok r ≡ false → after ≡ before → BatteryAppended before bytes r after
  done : r ≡ Ok tt → after ≡ appended bytes before → BatteryAppended before bytes r after

-- a force loses power if it is the one that was set, with as many new slots forced as set, and else never
pub data BatteryForced (before : Held (List ℕ) most_slots) (r : Result (Unit {0}) LogFault) (after : Held (List ℕ) most_slots) : Type 0 where
  no_power : before.powered ≡ false → r ≡ Err (slot.PowerLost before.used) → after ≡ before → BatteryForced before r after
  done : before.powered ≡ true → cuts_now before.cut ≡ false → r ≡ Ok tt → after ≡ forced_on before → BatteryForced before r after
  lost : before.powered ≡ true → cuts_now before.cut ≡ true → r ≡ Err (slot.PowerLost before.used)
      → after ≡ forced_on before → BatteryForced before r after
