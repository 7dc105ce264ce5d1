-- What is read of battery memory: the row of the model at that place, and none outside.
use Rattle.std.proofs.Common.{◌≡◌, ℕ, zero, suc, ◌≤◌, true, List, [], ◌∷◌, Option, Some, None, length, take, Ok, sym, refl, ap, ◌∙◌, arith, Bor}
use Rattle.std.specs.List.{slice_get}
use Rattle.std.specs.Option.{ok_or, option_map, option_copied}
use Rattle.std.specs.Result.{result_map_both}
use Rattle.std.proofs.lemmas.Option.{slice_get_within, get_or_from_slice_get, slice_get-map}
use Rattle.device.specs.Memory.{as_bytes}
use Rattle.device.specs.PageStores.{PageModel, PageRead}
use Rattle.device.specs.LogStores.{LogModel, SlotRead}
use Rattle.device.specs.declared.page_store.PageFault.TheVariants as page
use Rattle.device.specs.declared.log_store.LogFault.TheVariants as slot
use Rattle.battery.specs.Batteries.{Held}
use Rattle.battery.specs.BatteryStores.{rows}

none_past : {X : Type 0} (xs : List X) (i : ℕ) → None ≡ slice_get xs i → length xs ≤ i
none_past [] i e = omega arith
none_past (x ∷ xs) zero e = absurd cc
none_past (x ∷ xs) (suc i) e = let past = none_past xs i e in omega arith

-- an element that is lent, copied in the answer
pub copied_answer : {X E : Type 0} (o : Option (Bor X)) (f : E) → result_map_both (λ b. b.now) (λ e. e) (ok_or o f) ≡ ok_or (option_copied o) f
copied_answer None f = refl
copied_answer (Some b) f = refl

same_row : (n : ℕ) (o : Option (List ℕ)) → ((x : List ℕ) → o ≡ Some x → as_bytes n x ≡ x) → o ≡ option_map (as_bytes n) o
same_row n None whole = refl
same_row n (Some x) whole = ap Some (sym (whole x refl))

pub row_got : {most : ℕ} (n : ℕ) (h : Held (List ℕ) most) (at : ℕ) (o : Option (List ℕ)) → o ≡ slice_get (take h.used h.cells) at
    → ((x : List ℕ) → o ≡ Some x → as_bytes n x ≡ x) → o ≡ slice_get (rows n h) at
row_got n h at o e whole = same_row n o whole ∙ ap (option_map (as_bytes n)) e ∙ sym (slice_get-map (as_bytes n) (take h.used h.cells) at)

pub page_read : (m : PageModel) (at : ℕ) (o : Option (List ℕ)) → m.powered ≡ true → o ≡ slice_get m.pages at → PageRead m at (ok_or o page.Outside)
page_read m at None on e = PageRead.outside on (none_past m.pages at e) refl
page_read m at (Some x) on e =
    PageRead.done on (slice_get_within m.pages at x (sym e)) (ap Ok (sym (get_or_from_slice_get m.pages at x [] (sym e))))

pub slot_read : (m : LogModel) (n : ℕ) (o : Option (List ℕ)) → m.powered ≡ true → o ≡ slice_get m.slots n → SlotRead m (suc n) (ok_or o slot.Outside)
slot_read m n None on e = SlotRead.outside on (let past = none_past m.slots n e in omega arith) refl
slot_read m n (Some x) on e =
    SlotRead.done on (omega arith) (slice_get_within m.slots n x (sym e)) (ap Ok (sym (get_or_from_slice_get m.slots n x [] (sym e))))
