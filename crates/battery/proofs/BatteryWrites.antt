-- A page written in battery memory: what the write makes of the model, and that power is lost where it was set.
use Rattle.std.proofs.Common.{◌≡◌, ℕ, ◌<◌, ◌≤◌, min, Bool, true, false, cond, eqb, ltb, List, None, length, set, Ok, Err, Result, sym, refl, inl, inr, ap, ◌∙◌, arith, MatchResult}
use Rattle.std.proofs.lemmas.Bool.{cases_Bool, true≢false, lt-ltb, le-ltb}
use Rattle.device.specs.declared.page_store.PageFault.{PageFault}
use Rattle.device.specs.declared.page_store.PageFault.TheVariants.{PowerLost, Outside}
use Rattle.device.specs.Memory.{as_bytes}
use Rattle.device.specs.PageStores.{PageModel, PageWritten}
use Rattle.battery.specs.Batteries.{Held, made, room, cuts_now, next_cut, standing, written}
use Rattle.battery.specs.BatteryStores.{most_pages, pages_model, BatteryWrote}
use Rattle.battery.specs.BatterySound.{length_rows}
use Rattle.battery.proofs.BatteryCuts.{all_stand}
use Rattle.battery.proofs.BatteryRows.{rows_set}

-- the model that a write leaves, by whether the old page stays and whether power is lost
abbrev left : Held (List ℕ) most_pages → ℕ → List ℕ → Bool → Bool → PageModel
left h at x old lost = pages_model (record h { cells = cond old h.cells (set h.cells at x); powered = cond lost false h.powered; cut = next_cut h.cut })

left_new : (h : Held (List ℕ) most_pages) (at : ℕ) (x : List ℕ) (lost : Bool) → as_bytes 256 x ≡ x → at < h.used
    → left h at x false lost ≡ record { pages = set (pages_model h).pages at x; powered = cond lost false h.powered }
left_new h at x lost is inside =
    ap (λ l. let m : PageModel = record { pages = l; powered = cond lost false h.powered } in m) (rows_set 256 h.used h.cells at x is inside)

module _ (before after : Held (List ℕ) most_pages) (at : ℕ) (x : List ℕ) (is : as_bytes 256 x ≡ x) (on : before.powered ≡ true)
    (in_room : before.used ≤ room before) (inside : at < before.used) (wrote : after ≡ written at x before) where
  inside_model : at < length (pages_model before).pages
  inside_model = let e = length_rows 256 before in omega arith

  by_cut : (b : Bool) → cuts_now before.cut ≡ b → pages_model after ≡ left before at x (eqb (standing before.cut 1) 0) b
  by_cut b e = ap pages_model wrote ∙ ap (left before at x (eqb (standing before.cut 1) 0)) e

  powered_after : (b : Bool) → cuts_now before.cut ≡ b → after.powered ≡ cond b false true
  powered_after b e = ap (λ h. h.powered) wrote ∙ ap (λ b. cond b false before.powered) e ∙ ap (cond b false) on

  lost_by : (old : Bool) → pages_model after ≡ left before at x old true → PageWritten (pages_model before) at x (Err (PowerLost at)) (pages_model after)
  lost_by true e = PageWritten.lost_old on inside_model refl e
  lost_by false e = PageWritten.lost_new on inside_model refl (e ∙ left_new before at x true is inside)

  pub page_wrote : (r : Result (Unit {0}) PageFault) → r ≡ cond after.powered (Ok tt) (Err (PowerLost at)) → PageWritten (pages_model before) at x r (pages_model after)
  page_wrote r says = elim (cases_Bool (cuts_now before.cut)) [
    | inl cut ↦ rw (says ∙ ap (λ p. cond p (Ok tt) (Err (PowerLost at))) (powered_after true cut)) (lost_by (eqb (standing before.cut 1) 0) (by_cut true cut))
    | inr no_cut ↦ PageWritten.done on inside_model (says ∙ ap (λ p. cond p (Ok tt) (Err (PowerLost at))) (powered_after false no_cut))
        (by_cut false no_cut ∙ ap (λ k. left before at x (eqb k 0) false) (all_stand before.cut 1 no_cut) ∙ left_new before at x false is inside)
  ]

-- With power that is never lost the page is written if it is there, and the owner has the memory back with the page in it, or as it was.
pub owner_told : (loan : ℕ) (memory : List (List ℕ)) (at : ℕ) (x : List ℕ) (r : Result (Unit {0}) PageFault) (before after : Held (List ℕ) most_pages)
    → before ≡ made loan memory (min (length memory) most_pages) None → BatteryWrote before at x r after
    → r ≡ cond (ltb at (min (length memory) most_pages)) (Ok tt) (Err Outside)
owner_told loan memory at x r before after m (BatteryWrote.no_power off e same) = absurd (true≢false (sym (ap (λ h. h.powered) m) ∙ off))
owner_told loan memory at x r before after m (BatteryWrote.outside on out e same) =
    let size = ap (λ h. h.used) m in let no : ltb at (min (length memory) most_pages) ≡ false = le-ltb _ _ (omega arith) in cc
owner_told loan memory at x r before after m (BatteryWrote.done on inside no_cut e wrote) =
    let size = ap (λ h. h.used) m in let yes : ltb at (min (length memory) most_pages) ≡ true = lt-ltb _ _ (omega arith) in cc
owner_told loan memory at x r before after m (BatteryWrote.lost on inside cut e wrote) = absurd (true≢false (sym cut ∙ ap (λ h. cuts_now h.cut) m))

pub owner_has : (loan : ℕ) (memory : List (List ℕ)) (at : ℕ) (x : List ℕ) (r : Result (Unit {0}) PageFault) (before after : Held (List ℕ) most_pages) {ys : List (List ℕ)}
    → before ≡ made loan memory (min (length memory) most_pages) None → BatteryWrote before at x r after → ys ≡ after.cells
    → MatchResult r (λ _. ys ≡ set memory at x) (λ _. ys ≡ memory)
owner_has loan memory at x r before after m (BatteryWrote.no_power off e same) back = absurd (true≢false (sym (ap (λ h. h.powered) m) ∙ off))
owner_has loan memory at x r before after m (BatteryWrote.outside on out e same) back = rw e (back ∙ ap (λ h. h.cells) (same ∙ m))
owner_has loan memory at x r before after m (BatteryWrote.done on inside no_cut e wrote) back = rw e (back ∙ ap (λ h. h.cells) (wrote ∙ ap (written at x) m))
owner_has loan memory at x r before after m (BatteryWrote.lost on inside cut e wrote) back = absurd (true≢false (sym cut ∙ ap (λ h. cuts_now h.cut) m))

-- a write stays in the loan
pub same_loan : (at : ℕ) (x : List ℕ) (r : Result (Unit {0}) PageFault) (before after : Held (List ℕ) most_pages) → BatteryWrote before at x r after → after.loan ≡ before.loan
same_loan at x r before after (BatteryWrote.no_power off e same) = ap (λ h. h.loan) same
same_loan at x r before after (BatteryWrote.outside on out e same) = ap (λ h. h.loan) same
same_loan at x r before after (BatteryWrote.done on inside no_cut e wrote) = ap (λ h. h.loan) wrote
same_loan at x r before after (BatteryWrote.lost on inside cut e wrote) = ap (λ h. h.loan) wrote
