-- The state of server and devices. Assumes nothing.
use Rattle.std.specs.Prelude.{ℕ, suc, ◌-◌, Bool, true, false, ◌&&◌, List, [], length, nat_le}
use Rattle.format.specs.declared.page.Page.{Page}
use Rattle.device.specs.PageStores.{PageModel}
use Rattle.device.specs.LogStores.{LogModel}
use Rattle.rules.specs.Tables.{Jobs, Dirty}

pub record Devices : Type 0 where
  pub pages : PageModel
  pub log : LogModel

-- what analysis found; `first` is the first slot that the passes read whole
pub record Found : Type 0 where
  pub jobs : Jobs
  pub dirty : Dirty
  pub first : ℕ

-- what the server works with once redo is done: a copy of every page, the open jobs, the first slot read whole
pub record Working : Type 0 where
  pub copies : List Page
  pub jobs : Jobs
  pub first : ℕ

-- the server's memory; out of service it holds nothing
pub data Memory : Type 0 where
  out : Memory
  analysed : Found → Memory
  redone : Working → Memory
  serving : Working → Memory

pub record World : Type 0 where
  pub devices : Devices
  pub memory : Memory

abbrev pub is_analysed : Memory → Bool
is_analysed out = false
is_analysed (analysed f) = true
is_analysed (redone s) = false
is_analysed (serving s) = false

abbrev pub is_redone : Memory → Bool
is_redone out = false
is_redone (analysed f) = false
is_redone (redone s) = true
is_redone (serving s) = false

abbrev pub is_serving : Memory → Bool
is_serving out = false
is_serving (analysed f) = false
is_serving (redone s) = false
is_serving (serving s) = true

-- what the stages hold; nothing where a stage does not hold it
abbrev pub found_in_memory : Memory → Found
found_in_memory out = record { jobs = []; dirty = []; first = 1 }
found_in_memory (analysed f) = f
found_in_memory (redone s) = record { jobs = s.jobs; dirty = []; first = s.first }
found_in_memory (serving s) = record { jobs = s.jobs; dirty = []; first = s.first }

abbrev pub working : Memory → Working
working out = record { copies = []; jobs = []; first = 1 }
working (analysed f) = record { copies = []; jobs = f.jobs; first = f.first }
working (redone s) = s
working (serving s) = s

abbrev pub size : Devices → ℕ
size d = length d.pages.pages

abbrev pub slots : Devices → List (List ℕ)
slots d = d.log.slots

-- the length of the log, which is its last number; the number of the next slot; how many slots are free
abbrev pub log_length : Devices → ℕ
log_length d = length d.log.slots

abbrev pub next_slot : Devices → ℕ
next_slot d = suc (log_length d)

abbrev pub free : Devices → ℕ
free d = d.log.capacity - log_length d

-- 1: the store has 1 to 64 pages and the log 8 to 4,096 slots
abbrev pub sizes_legal : Devices → Bool
sizes_legal d = nat_le 1 (size d) && (nat_le (size d) 64 && (nat_le 8 d.log.capacity && nat_le d.log.capacity 4096))
