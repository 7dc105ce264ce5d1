-- A call is a plan that is performed: questions, then operations on the devices, the first of which that fails ends the call.
-- Left free are only how far an append raises the forced count, whether a device loses its power, and what that leaves.
-- Assumes nothing.
use Rattle.std.specs.Prelude.{◌≡◌, ℕ, Bool, true, false, List, [], ◌∷◌, Ok, Err, Result}
use Rattle.format.specs.declared.page.Page.{Page}
use Rattle.format.specs.declared.slot.Slot.{Slot}
use Rattle.format.specs.Changes.{Meaning}
use Rattle.format.specs.Pages.{page_bytes}
use Rattle.format.specs.Slots.{slot_bytes}
use Rattle.device.specs.declared.page_store.PageFault.{PageFault}
use Rattle.device.specs.declared.page_store.PageFault.TheVariants as page_fault
use Rattle.device.specs.declared.log_store.LogFault.{LogFault}
use Rattle.device.specs.declared.log_store.LogFault.TheVariants as log_fault
use Rattle.device.specs.PageStores as page_store
use Rattle.device.specs.PageStores.{PageModel, PageWritten}
use Rattle.device.specs.LogStores as log_store
use Rattle.device.specs.LogStores.{LogModel, SlotAppended, LogForced}
use Rattle.rules.specs.declared.refusal.Refusal.{Refusal}
use Rattle.rules.specs.declared.refusal.Refusal.TheVariants.{PageOutside, LogFull, LogUnreadable, PowerLost}
use Rattle.rules.specs.declared.refusal.Device.TheVariants as device
use Rattle.rules.specs.State.{Devices, Memory, out, World}

pub data Op (C : Type 0) : Type 0 where
  append : Slot C → Op C
  force : Op C
  write : ℕ → Page → Op C

-- A question that is answered no refuses the call and alters nothing; one that is insisted on also takes the server out of service. A call that powers
-- the devices on forgets what the server held, and goes on by what they hold then. Last come operations, with the answer and the memory that
-- follow if all of them are done.
pub data Plan (C A : Type 0) : Type 0 where
  asks : Bool → Refusal → Plan C A → Plan C A
  insists : Bool → Refusal → Plan C A → Plan C A
  powers_on : (Devices → Plan C A) → Plan C A
  performs : List (Op C) → Result A Refusal → Memory → Plan C A

-- what a fault of a device is to the server's caller; a plan asks for no page and no slot that is not there
abbrev pub refusal_of_page : PageFault → Refusal
refusal_of_page (page_fault.PowerLost p) = PowerLost device.Pages p
refusal_of_page page_fault.Outside = PageOutside

abbrev pub refusal_of_log : LogFault → Refusal
refusal_of_log (log_fault.PowerLost n) = PowerLost device.Log n
refusal_of_log log_fault.Outside = LogUnreadable
refusal_of_log log_fault.Full = LogFull

abbrev pub with_pages : Devices → PageModel → Devices
with_pages d p = record { pages = p; log = d.log }

abbrev pub with_log : Devices → LogModel → Devices
with_log d l = record { pages = d.pages; log = l }

-- both devices have power again; the log keeps its forced slots
abbrev pub powered_on : Devices → Devices
powered_on d = record { pages = page_store.powered_on d.pages; log = log_store.powered_on d.log }

module _ {C : Type 0} (m : Meaning C) where
  -- an operation is done
  pub data Did : Op C → Devices → Devices → Type 0 where
    appended : {s : Slot C} {d : Devices} {l : LogModel} → SlotAppended d.log (slot_bytes m s) (Ok tt) l → Did (append s) d (with_log d l)
    forced : {d : Devices} {l : LogModel} → LogForced d.log (Ok tt) l → Did force d (with_log d l)
    wrote : {p : ℕ} {page : Page} {d : Devices} {s : PageModel} → PageWritten d.pages p (page_bytes page) (Ok tt) s → Did (write p page) d (with_pages d s)

  -- an operation fails
  pub data Failed : Op C → Devices → Refusal → Devices → Type 0 where
    append_failed : {s : Slot C} {d : Devices} {f : LogFault} {l : LogModel} → SlotAppended d.log (slot_bytes m s) (Err f) l
        → Failed (append s) d (refusal_of_log f) (with_log d l)
    force_failed : {d : Devices} {f : LogFault} {l : LogModel} → LogForced d.log (Err f) l → Failed force d (refusal_of_log f) (with_log d l)
    write_failed : {p : ℕ} {page : Page} {d : Devices} {f : PageFault} {s : PageModel} → PageWritten d.pages p (page_bytes page) (Err f) s
        → Failed (write p page) d (refusal_of_page f) (with_pages d s)

  -- the operations one after the other, and what the call answers and leaves
  pub data Performed {A : Type 0} (answer : Result A Refusal) (after : Memory) : List (Op C) → Devices → Result A Refusal → World → Type 0 where
    done : {d : Devices} → Performed answer after [] d answer (record { devices = d; memory = after })
    next : {op : Op C} {ops : List (Op C)} {d e : Devices} {r : Result A Refusal} {w : World} → Did op d e → Performed answer after ops e r w
        → Performed answer after (op ∷ ops) d r w
    failed : {op : Op C} {ops : List (Op C)} {d e : Devices} {f : Refusal} → Failed op d f e
        → Performed answer after (op ∷ ops) d (Err f) (record { devices = e; memory = out })

  -- the outcome of a call: its plan at a state, the answer, the state after
  pub data Does {A : Type 0} : Plan C A → World → Result A Refusal → World → Type 0 where
    refused : {b : Bool} {why : Refusal} {p : Plan C A} {w : World} → b ≡ false → Does (asks b why p) w (Err why) w
    granted : {b : Bool} {why : Refusal} {p : Plan C A} {w v : World} {r : Result A Refusal} → b ≡ true → Does p w r v → Does (asks b why p) w r v
    stopped : {b : Bool} {why : Refusal} {p : Plan C A} {w : World} → b ≡ false
        → Does (insists b why p) w (Err why) (record { devices = w.devices; memory = out })
    passed : {b : Bool} {why : Refusal} {p : Plan C A} {w v : World} {r : Result A Refusal} → b ≡ true → Does p w r v → Does (insists b why p) w r v
    began : {f : Devices → Plan C A} {w v : World} {r : Result A Refusal} (d : Devices) → d ≡ powered_on w.devices
        → Does (f d) (record { devices = d; memory = out }) r v → Does (powers_on f) w r v
    performed : {ops : List (Op C)} {answer : Result A Refusal} {after : Memory} {w v : World} {r : Result A Refusal}
        → Performed answer after ops w.devices r v → Does (performs ops answer after) w r v
