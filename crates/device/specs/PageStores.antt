-- What a page store means: its model, and what each operation may make of it. Assumes nothing.
use Rattle.std.specs.Prelude.{◌≡◌, ℕ, ◌<◌, ◌≤◌, Bool, true, false, List, [], length, Ok, Err, Result, slice_index_or, slice_set}
use Rattle.format.specs.Bytes.{Bytes}
use Rattle.device.specs.declared.page_store.PageFault.{PageFault}
use Rattle.device.specs.declared.page_store.PageFault.TheVariants.{PowerLost, Outside}

-- the pages from 0 on, and whether the store has power
pub record PageModel : Type 0 where
  pub pages : List (List ℕ)
  pub powered : Bool

-- at most 65,536 pages, each of 256 bytes
pub record SoundPages (m : PageModel) : Type 0 where
  pub few : length m.pages ≤ 65536
  pub each : (p : ℕ) → p < length m.pages → Bytes 256 (slice_index_or m.pages p [])

abbrev pub with_page : PageModel → ℕ → List ℕ → PageModel
with_page m at page = record { pages = slice_set m.pages at page; powered = m.powered }

abbrev pub without_power : PageModel → PageModel
without_power m = record { pages = m.pages; powered = false }

-- power comes back and no page changes
abbrev pub powered_on : PageModel → PageModel
powered_on m = record { pages = m.pages; powered = true }

-- the same fault, named by this page
abbrev pub fault_at : PageFault → ℕ → PageFault
fault_at (PowerLost _) page = PowerLost page
fault_at Outside page = Outside

-- reading a page alters nothing
pub data PageRead (m : PageModel) (at : ℕ) (r : Result (List ℕ) PageFault) : Type 0 where
  no_power : m.powered ≡ false → r ≡ Err (PowerLost at) → PageRead m at r
  outside : m.powered ≡ true → length m.pages ≤ at → r ≡ Err Outside → PageRead m at r
  done : m.powered ≡ true → at < length m.pages → r ≡ Ok (slice_index_or m.pages at []) → PageRead m at r

-- a write makes the page new, or power is lost in it and that page is old or new; all others stay
pub data PageWritten (before : PageModel) (at : ℕ) (page : List ℕ) (r : Result (Unit {0}) PageFault) (after : PageModel) : Type 0 where
  no_power : before.powered ≡ false → r ≡ Err (PowerLost at) → after ≡ before → PageWritten before at page r after
  outside : before.powered ≡ true → length before.pages ≤ at → r ≡ Err Outside → after ≡ before → PageWritten before at page r after
  done : before.powered ≡ true → at < length before.pages → r ≡ Ok tt → after ≡ with_page before at page
      → PageWritten before at page r after
  lost_old : before.powered ≡ true → at < length before.pages → r ≡ Err (PowerLost at) → after ≡ without_power before
      → PageWritten before at page r after
  lost_new : before.powered ≡ true → at < length before.pages → r ≡ Err (PowerLost at)
      → after ≡ without_power (with_page before at page) → PageWritten before at page r after
