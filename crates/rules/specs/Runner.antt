-- Runs a plan on devices whose free choices are given: at which operation power is lost, what that leaves, how far appends raise the
-- forced count. A case of what a plan may come to. Assumes nothing.
use Rattle.std.specs.Prelude.{ℕ, suc, pred, ◌+◌, min, Bool, true, false, List, [], ◌∷◌, length, Ok, Err, Result, ◌==◌, nat_lt}
use Rattle.format.specs.Changes.{Meaning}
use Rattle.format.specs.Pages.{page_bytes}
use Rattle.format.specs.Slots.{slot_bytes}
use Rattle.device.specs.PageStores.{PageModel, with_page, without_power}
use Rattle.device.specs.LogStores.{LogModel, state, with_slot, new_slot}
use Rattle.rules.specs.declared.refusal.Refusal.{Refusal}
use Rattle.rules.specs.declared.refusal.Refusal.TheVariants.{PageOutside, LogFull, PowerLost}
use Rattle.rules.specs.declared.refusal.Device.TheVariants as device
use Rattle.rules.specs.Plans.{Op, append, force, write, Plan, asks, insists, powers_on, performs, with_pages, with_log, powered_on}
use Rattle.rules.specs.State.{Devices, Memory, out, World}

-- what is left where power is lost: of a page the old or the new; of an append the log without its slot, with how many slots more forced, or with it;
-- of a force how many slots more are forced
pub data Left : Type 0 where
  old : Left
  new : Left
  without_slot : ℕ → Left
  with_its_slot : Left
  more : ℕ → Left

-- power is lost at the operation of that number from now on, 0 for never
pub record Failure : Type 0 where
  pub countdown : ℕ
  pub left : Left
  -- by how much each append raises the forced count
  pub raise : ℕ → ℕ

abbrev pub power_kept : Failure
power_kept = record { countdown = 0; left = new; raise = λ i. 0 }

abbrev pub later : Failure → Failure
later f = record { countdown = pred f.countdown; left = f.left; raise = λ i. f.raise (suc i) }

pub record Made : Type 0 where
  pub answer : Result (Unit {0}) Refusal
  pub devices : Devices

abbrev pub made : Result (Unit {0}) Refusal → Devices → Made
made r d = record { answer = r; devices = d }

abbrev pub fails_now : Failure → Bool
fails_now f = f.countdown == 1

-- Operations

-- each is asked for its power, then for its place, then by failure

abbrev pub write_left : Left → PageModel → ℕ → List ℕ → PageModel
write_left old s p b = without_power s
write_left new s p b = without_power (with_page s p b)
write_left (without_slot n) s p b = without_power (with_page s p b)
write_left with_its_slot s p b = without_power (with_page s p b)
write_left (more n) s p b = without_power (with_page s p b)

abbrev pub write_by : Bool → Failure → Devices → ℕ → List ℕ → Made
write_by true f d p b = made (Err (PowerLost device.Pages p)) (with_pages d (write_left f.left d.pages p b))
write_by false f d p b = made (Ok tt) (with_pages d (with_page d.pages p b))

abbrev pub write_in : Bool → Failure → Devices → ℕ → List ℕ → Made
write_in true f d p b = write_by (fails_now f) f d p b
write_in false f d p b = made (Err PageOutside) d

abbrev pub write_with : Bool → Failure → Devices → ℕ → List ℕ → Made
write_with true f d p b = write_in (nat_lt p (length d.pages.pages)) f d p b
write_with false f d p b = made (Err (PowerLost device.Pages p)) d

abbrev pub raised : Failure → LogModel → ℕ
raised f l = min (l.forced + f.raise 0) (new_slot l)

abbrev pub append_left : Left → Failure → LogModel → List ℕ → LogModel
append_left old f l b = state l (with_slot l b) (raised f l) false
append_left new f l b = state l (with_slot l b) (raised f l) false
append_left (without_slot n) f l b = state l l.slots (min (l.forced + n) (length l.slots)) false
append_left with_its_slot f l b = state l (with_slot l b) (raised f l) false
append_left (more n) f l b = state l (with_slot l b) (raised f l) false

abbrev pub append_by : Bool → Failure → Devices → List ℕ → Made
append_by true f d b = made (Err (PowerLost device.Log (new_slot d.log))) (with_log d (append_left f.left f d.log b))
append_by false f d b = made (Ok tt) (with_log d (state d.log (with_slot d.log b) (raised f d.log) true))

abbrev pub append_in : Bool → Failure → Devices → List ℕ → Made
append_in true f d b = append_by (fails_now f) f d b
append_in false f d b = made (Err LogFull) d

abbrev pub append_with : Bool → Failure → Devices → List ℕ → Made
append_with true f d b = append_in (nat_lt (length d.log.slots) d.log.capacity) f d b
append_with false f d b = made (Err (PowerLost device.Log (new_slot d.log))) d

abbrev pub how_many_more : Left → ℕ
how_many_more old = 0
how_many_more new = 0
how_many_more (without_slot n) = 0
how_many_more with_its_slot = 0
how_many_more (more n) = n

abbrev pub force_by : Bool → Failure → Devices → Made
force_by true f d = let l = d.log in
    made (Err (PowerLost device.Log (length l.slots))) (with_log d (state l l.slots (min (l.forced + how_many_more f.left) (length l.slots)) false))
force_by false f d = let l = d.log in made (Ok tt) (with_log d (state l l.slots (length l.slots) true))

abbrev pub force_with : Bool → Failure → Devices → Made
force_with true f d = force_by (fails_now f) f d
force_with false f d = made (Err (PowerLost device.Log (length d.log.slots))) d

module _ {C : Type 0} (m : Meaning C) where
  abbrev pub run_op : Failure → Devices → Op C → Made
  run_op f d (append s) = append_with d.log.powered f d (slot_bytes m s)
  run_op f d force = force_with d.log.powered f d
  run_op f d (write p page) = write_with d.pages.powered f d p (page_bytes page)

  -- Plans

  pub record Ran (A : Type 0) : Type 0 where
    pub answer : Result A Refusal
    pub world : World

  abbrev pub ran : {A : Type 0} → Result A Refusal → Devices → Memory → Ran A
  ran r d memory = record { answer = r; world = record { devices = d; memory = memory } }

  abbrev pub go_on : {A : Type 0} → (Devices → Ran A) → Devices → Result (Unit {0}) Refusal → Ran A
  go_on rest d (Ok x) = rest d
  go_on rest d (Err why) = ran (Err why) d out

  abbrev pub run_ops : {A : Type 0} → Result A Refusal → Memory → Failure → List (Op C) → Devices → Ran A
  run_ops r memory f [] d = ran r d memory
  run_ops r memory f (op ∷ ops) d = let x = run_op f d op in go_on (run_ops r memory (later f) ops) x.devices x.answer

  abbrev pub run : {A : Type 0} → Failure → Plan C A → World → Ran A
  run f (asks b why p) w = elim b [ true ↦ run f p w | false ↦ ran (Err why) w.devices w.memory ]
  run f (insists b why p) w = elim b [ true ↦ run f p w | false ↦ ran (Err why) w.devices out ]
  run f (powers_on g) w = let d = powered_on w.devices in run f (g d) (record { devices = d; memory = out })
  run f (performs ops r memory) w = run_ops r memory f ops w.devices
