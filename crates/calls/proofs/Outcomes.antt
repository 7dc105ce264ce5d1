-- What an operation of a device is to the server. Assumes nothing.
use Rattle.std.proofs.Common.{◌≡◌, ℕ, List, length, Ok, Err, Result, sym, subst, ◌∙◌}
use Rattle.format.specs.declared.page.Page.{Page}
use Rattle.format.specs.declared.slot.Slot.{Slot}
use Rattle.format.specs.Changes.{Meaning}
use Rattle.format.specs.Pages.{page_bytes}
use Rattle.format.specs.Slots.{slot_bytes}
use Rattle.device.specs.declared.page_store.PageFault.{PageFault}
use Rattle.device.specs.declared.log_store.LogFault.{LogFault}
use Rattle.device.specs.PageStores.{PageModel, PageWritten}
use Rattle.device.specs.LogStores.{LogModel, LengthRead, SlotAppended, LogForced}
use Rattle.rules.specs.declared.refusal.Refusal.{Refusal}
use Rattle.rules.specs.Plans.{append, force, write, refusal_of_page, refusal_of_log, with_pages, with_log, appended, wrote, append_failed, force_failed, write_failed}
use Rattle.rules.specs.State.{Devices}
use Rattle.promises.proofs.AnyDevicesScans.{clash}
use Rattle.calls.specs.Outcomes.{Outcome}

module _ {C : Type 0} (m : Meaning C) (d : Devices) where
  pub appended_so : (s : Slot C) (b : List ℕ) (l : LogModel) → b ≡ slot_bytes m s → SlotAppended d.log b (Ok tt) l → Outcome m (append s) d (Ok tt) (with_log d l)
  appended_so s b l e x = appended (subst (λ b. SlotAppended d.log b (Ok tt) l) e x)

  pub append_fails : (s : Slot C) (b : List ℕ) (l : LogModel) (f : LogFault) (r : Result (Unit {0}) Refusal) → b ≡ slot_bytes m s → r ≡ Err (refusal_of_log f)
      → SlotAppended d.log b (Err f) l → Outcome m (append s) d r (with_log d l)
  append_fails s b l f r e q x = subst (λ r. Outcome m (append s) d r (with_log d l)) (sym q) (append_failed (subst (λ b. SlotAppended d.log b (Err f) l) e x))

  pub force_fails : (l : LogModel) (f : LogFault) (r : Result (Unit {0}) Refusal) → r ≡ Err (refusal_of_log f) → LogForced d.log (Err f) l → Outcome m force d r (with_log d l)
  force_fails l f r q x = subst (λ r. Outcome m force d r (with_log d l)) (sym q) (force_failed x)

  pub wrote_so : (p : ℕ) (page : Page) (b : List ℕ) (s : PageModel) → b ≡ page_bytes page → PageWritten d.pages p b (Ok tt) s → Outcome m (write p page) d (Ok tt) (with_pages d s)
  wrote_so p page b s e x = wrote (subst (λ b. PageWritten d.pages p b (Ok tt) s) e x)

  pub write_fails : (p : ℕ) (page : Page) (b : List ℕ) (s : PageModel) (f : PageFault) (r : Result (Unit {0}) Refusal) → b ≡ page_bytes page → r ≡ Err (refusal_of_page f)
      → PageWritten d.pages p b (Err f) s → Outcome m (write p page) d r (with_pages d s)
  write_fails p page b s f r e q x = subst (λ r. Outcome m (write p page) d r (with_pages d s)) (sym q) (write_failed (subst (λ b. PageWritten d.pages p b (Err f) s) e x))

pub length_is : (l : LogModel) (r : Result ℕ LogFault) (n : ℕ) → LengthRead l r → r ≡ Ok n → n ≡ length l.slots
length_is l r n (LengthRead.no_power p q) e = clash _ _ (sym q ∙ e)
length_is l r n (LengthRead.done p q) e = let z : ◌≡◌ {A = Result ℕ LogFault} (Ok n) (Ok (length l.slots)) = sym e ∙ q in cc
