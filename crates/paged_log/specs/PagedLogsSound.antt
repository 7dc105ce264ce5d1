-- A log on pages is a sound log, whatever the pages say and the struct remembers.
use Rattle.std.specs.Prelude.{◌≡◌, ℕ, zero, suc, ◌+◌, ◌*◌, ◌/◌, ◌%◌, ◌<◌, ◌≤◌, min, Bool, true, false, List, [], ◌∷◌, length, drop, slice_index_or, refl}
use Rattle.std.proofs.Common.{sym, ◌∙◌, ap, subst, ⊎_elim, arith, add-one}
use Rattle.std.proofs.lemmas.List.{length_push, get_or_append_left, get_or_push, length-take, length-drop, get_or-take, get_or-drop, get_or_past}
use Rattle.std.proofs.lemmas.Bool.{cases_lt, cond_both}
use Rattle.format.specs.Bytes.{Bytes}
use Rattle.device.specs.Memory.{as_bytes, as_bytes_size, as_bytes_small}
use Rattle.device.specs.PageStores.{PageModel, SoundPages}
use Rattle.device.specs.LogStores.{SoundLog}
use Rattle.paged_log.specs.PagedLogs.{slot_in, slot_at, first_slots, stands, held, sure, room, paged}

pub length_first : (pages : List (List ℕ)) (n : ℕ) → length (first_slots pages n) ≡ n
length_first pages zero = refl
length_first pages (suc n) = length_push (first_slots pages n) (slot_at pages n) ∙ add-one _ ∙ ap suc (length_first pages n)

pub get_or_first : (pages : List (List ℕ)) (n k : ℕ) → k < n → slice_index_or (first_slots pages n) k [] ≡ slot_at pages k
get_or_first pages zero k h = absurd (omega arith)
get_or_first pages (suc n) k h =
    let e = length_first pages n in
    ⊎_elim
    (λ l. get_or_append_left (first_slots pages n) (slot_at pages n ∷ []) [] k (omega arith) ∙ get_or_first pages n k l)
    (λ l. let same : k ≡ n = omega arith in
    get_or_push (first_slots pages n) (slot_at pages n) [] k (e ∙ sym same) ∙ ap (slot_at pages) (sym same))
    (cases_lt k n)

pub slot_fits : (page : List ℕ) (place : ℕ) → place < 4 → Bytes 256 page → Bytes 60 (slot_in page place)
slot_fits page place h b =
    let a = length-take 60 (drop (60 * place) (drop 16 page)) in
    let d = length-drop (60 * place) (drop 16 page) in
    let f = length-drop 16 page in
    let w = b.size in
    let size : length (slot_in page place) ≡ 60 = omega arith in
    let below : ℕ → Type 0 = λ x. x < 256 in
    record {
      size = size;
      small = λ k. ⊎_elim
          (λ l. subst below (sym (get_or-take 60 (drop (60 * place) (drop 16 page)) k 0 l ∙ get_or-drop (60 * place) (drop 16 page) k 0
          ∙ get_or-drop 16 page (60 * place + k) 0)) (b.small (16 + (60 * place + k))))
          (λ l. subst below (sym (get_or_past (slot_in page place) k 0 (omega arith))) (omega arith))
          (cases_lt k 60);
    }

pub slot_at_fits : (m : PageModel) → SoundPages m → (n : ℕ) → n < room m → Bytes 60 (slot_at m.pages n)
slot_at_fits m s n h = slot_fits (slice_index_or m.pages (n / 4) []) (n % 4) (omega arith) (s.each (n / 4) (omega arith))

pub held_size : (b : Bool) (pages : List (List ℕ)) (n : ℕ) (last : List ℕ) → length (held b pages n last) ≡ n
held_size true pages n last = length_first pages n
held_size false pages zero last = refl
held_size false pages (suc n) last = length_push (first_slots pages n) last ∙ add-one _ ∙ ap suc (length_first pages n)

sure_most : (b : Bool) (pages : List (List ℕ)) (n : ℕ) (last : List ℕ) → sure b pages n last ≤ n
sure_most true pages n last = omega arith
sure_most false pages zero last = omega arith
sure_most false pages (suc n) last = cond_both (stands pages n last) (suc n) n (λ k. k ≤ suc n) (λ e. omega arith) (λ e. omega arith)

held_fits : (m : PageModel) → SoundPages m → (b : Bool) (n : ℕ) (last : List ℕ) → n ≤ room m → Bytes 60 last
    → (i : ℕ) → i < length (held b m.pages n last) → Bytes 60 (slice_index_or (held b m.pages n last) i [])
held_fits m s true n last h w i l =
    let e = length_first m.pages n in
    subst (λ (x : List ℕ). Bytes 60 x) (sym (get_or_first m.pages n i (omega arith))) (slot_at_fits m s i (omega arith))
held_fits m s false zero last h w i l = absurd (omega arith)
held_fits m s false (suc n) last h w i l =
    let e = length_first m.pages n in
    let f = held_size false m.pages (suc n) last in
    ⊎_elim
    (λ a. subst (λ (x : List ℕ). Bytes 60 x)
    (sym (get_or_append_left (first_slots m.pages n) (last ∷ []) [] i (omega arith) ∙ get_or_first m.pages n i a)) (slot_at_fits m s i (omega arith)))
    (λ a. subst (λ (x : List ℕ). Bytes 60 x) (sym (get_or_push (first_slots m.pages n) last [] i (omega arith))) w)
    (cases_lt i n)

pub paged_sound : (m : PageModel) → SoundPages m → (len : ℕ) (last : List ℕ) → SoundLog (paged m len last)
paged_sound m s len last =
    let n = held_size m.powered m.pages (min len (room m)) (as_bytes 60 last) in
    let f = s.few in
    record {
      held = let most = sure_most m.powered m.pages (min len (room m)) (as_bytes 60 last) in omega arith;
      room = omega arith;
      numbers = omega arith;
      each = held_fits m s m.powered (min len (room m)) (as_bytes 60 last) (omega arith) (record { size = as_bytes_size 60 last; small = as_bytes_small 60 last });
    }
