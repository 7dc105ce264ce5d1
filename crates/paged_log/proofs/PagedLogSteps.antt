-- What putting a slot makes of the pages.
use Rattle.std.proofs.Common.{◌≡◌, ℕ, suc, ◌+◌, ◌*◌, ◌/◌, ◌%◌, ◌<◌, ◌≤◌, eqb, ◌≢◌, List, [], ◌++◌, length, get_or, take, drop, sym, refl, ap, ◌∙◌, subst, ⊎_elim, arith}
use Rattle.std.proofs.lemmas.List.{length-drop, length-take-le, length-set, take_at, drop_at, drop-append-le, take-append-le, get_or-set_same, get_or-set_other, take-append-drop}
use Rattle.std.proofs.lemmas.Bool.{cases_lt, cases_eq, cases_Bool, eq-eqb}
use Rattle.paged_log.specs.PagedLogs.{count_of, slot_in, slot_at, log_length, blank, page_with, room_made, put_slot}
use Rattle.paged_log.proofs.PagedLogEnds.{length_at, length_full, full_before, count_there}

module _ (page : List ℕ) (whole : length page ≡ 256) (place : ℕ) (inside : place < 4) (slot : List ℕ) (slot_whole : length slot ≡ 60) where
  pub count_with : count_of (page_with page place slot) ≡ suc place
  count_with = omega arith

  front_size : length (take (60 * place) (drop 16 page)) ≡ 60 * place
  front_size = length-take-le (60 * place) (drop 16 page) (let d = length-drop 16 page in omega arith)

  pub slot_with : slot_in (page_with page place slot) place ≡ slot
  slot_with =
      let front = take (60 * place) (drop 16 page) in
      let rest = drop (60 * place + 60) (drop 16 page) in
      ap (take 60) (drop_at front (slot ++ rest) (60 * place) front_size) ∙ take_at slot rest 60 slot_whole

  pub slot_kept : (k : ℕ) → k < place → slot_in (page_with page place slot) k ≡ slot_in page k
  slot_kept k h =
      let front = take (60 * place) (drop 16 page) in
      let back = drop (60 * place) (drop 16 page) in
      let rest = slot ++ drop (60 * place + 60) (drop 16 page) in
      let e = front_size in
      let d = length-drop (60 * k) front in
      ap (take 60) (drop-append-le (60 * k) front rest (omega arith))
      ∙ take-append-le 60 (drop (60 * k) front) rest (omega arith)
      ∙ sym (ap (take 60) (ap (drop (60 * k)) (sym (take-append-drop (60 * place) (drop 16 page))) ∙ drop-append-le (60 * k) front back (omega arith))
      ∙ take-append-le 60 (drop (60 * k) front) back (omega arith))

-- the page before the next is not touched by making room
pub kept_by_room : (pages : List (List ℕ)) (n p : ℕ) → p ≤ n / 4 → get_or (room_made pages n) p [] ≡ get_or pages p []
kept_by_room pages n p h = ⊎_elim
    (λ e. rw e (get_or-set_other pages (suc (n / 4)) p blank [] (omega arith)))
    (λ e. rw e refl)
    (cases_Bool (eqb (n % 4) 3))

pub room_size : (pages : List (List ℕ)) (n : ℕ) → length (room_made pages n) ≡ length pages
room_size pages n = ⊎_elim
    (λ e. rw e (length-set pages (suc (n / 4)) blank))
    (λ e. rw e refl)
    (cases_Bool (eqb (n % 4) 3))

pub slots_by_room : (pages : List (List ℕ)) (n k : ℕ) → k < n → slot_at (room_made pages n) k ≡ slot_at pages k
slots_by_room pages n k h = ap (λ (page : List ℕ). slot_in page (k % 4)) (kept_by_room pages n (k / 4) (omega arith))

-- the log ends in page n / 4, and making room does not move the end
pub end_by_room : (pages : List (List ℕ)) (n : ℕ) → n < 4 * length pages → log_length pages ≡ n → log_length (room_made pages n) ≡ n
end_by_room pages n inside e =
    let there = count_there pages (n / 4) (n % 4) (omega arith) (omega arith) (omega arith) in
    let same = ap count_of (kept_by_room pages n (n / 4) (omega arith)) in
    let size = room_size pages n in
    let at = length_at (room_made pages n) (n / 4) (omega arith)
    (λ k l. subst (λ (page : List ℕ). 4 ≤ count_of page) (sym (kept_by_room pages n k (omega arith))) (full_before pages k (omega arith)))
    (omega arith) in
    omega arith

-- the next page, where the page gets its fourth slot, is blank or is not there
pub next_blank : (pages : List (List ℕ)) (n : ℕ) → n % 4 ≡ 3 → suc (n / 4) < length pages → get_or (room_made pages n) (suc (n / 4)) [] ≡ blank
next_blank pages n e h = rw (eq-eqb (n % 4) 3 e) (get_or-set_same pages (suc (n / 4)) blank [] h)

module _ (pages : List (List ℕ)) (n : ℕ) (inside : n < 4 * length pages) (whole : length (get_or pages (n / 4) []) ≡ 256) (slot : List ℕ) (slot_whole : length slot ≡ 60) where
  there : get_or (put_slot pages n slot) (n / 4) [] ≡ page_with (get_or pages (n / 4) []) (n % 4) slot
  there = get_or-set_same pages (n / 4) (page_with (get_or pages (n / 4) []) (n % 4) slot) [] (omega arith)

  elsewhere : (p : ℕ) → p ≢ n / 4 → get_or (put_slot pages n slot) p [] ≡ get_or pages p []
  elsewhere p h = get_or-set_other pages (n / 4) p (page_with (get_or pages (n / 4) []) (n % 4) slot) [] h

  pub put_size : length (put_slot pages n slot) ≡ length pages
  put_size = length-set pages (n / 4) (page_with (get_or pages (n / 4) []) (n % 4) slot)

  pub put_there : slot_at (put_slot pages n slot) n ≡ slot
  put_there = ap (λ (page : List ℕ). slot_in page (n % 4)) there ∙ slot_with (get_or pages (n / 4) []) whole (n % 4) (omega arith) slot slot_whole

  pub put_kept : (k : ℕ) → k < n → slot_at (put_slot pages n slot) k ≡ slot_at pages k
  put_kept k h = ⊎_elim
      (λ e. ap (λ (page : List ℕ). slot_in page (k % 4)) (ap (λ (p : ℕ). get_or (put_slot pages n slot) p []) e ∙ there)
      ∙ slot_kept (get_or pages (n / 4) []) whole (n % 4) (omega arith) slot slot_whole (k % 4) (omega arith)
      ∙ ap (λ (p : ℕ). slot_in (get_or pages p []) (k % 4)) (sym e))
      (λ d. ap (λ (page : List ℕ). slot_in page (k % 4)) (elsewhere (k / 4) d))
      (cases_eq (k / 4) (n / 4))

  pub put_count : count_of (get_or (put_slot pages n slot) (n / 4) []) ≡ suc (n % 4)
  put_count = ap count_of there ∙ count_with (get_or pages (n / 4) []) whole (n % 4) (omega arith) slot slot_whole

  module _ (ends : log_length pages ≡ n) where
    before_it : (k : ℕ) → k < n / 4 → 4 ≤ count_of (get_or (put_slot pages n slot) k [])
    before_it k l = subst (λ (page : List ℕ). 4 ≤ count_of page) (sym (elsewhere k (omega arith))) (full_before pages k (omega arith))

    with_it : 3 ≤ n % 4 → (k : ℕ) → k < suc (n / 4) → 4 ≤ count_of (get_or (put_slot pages n slot) k [])
    with_it four k l = ⊎_elim (λ b. before_it k b)
        (λ b. let same : k ≡ n / 4 = omega arith in
        subst (λ (p : ℕ). 4 ≤ count_of (get_or (put_slot pages n slot) p [])) (sym same) (let c = put_count in omega arith))
        (cases_lt k (n / 4))

    -- the end is one slot on, if the page after a full one is blank
    pub put_end : (n % 4 ≡ 3 → suc (n / 4) < length pages → get_or pages (suc (n / 4)) [] ≡ blank) → log_length (put_slot pages n slot) ≡ suc n
    put_end room =
        let count = put_count in
        let size = put_size in
        ⊎_elim
        (λ less. let at = length_at (put_slot pages n slot) (n / 4) (omega arith) before_it (omega arith) in omega arith)
        (λ four. ⊎_elim
        (λ more.
        let next = ap count_of (elsewhere (suc (n / 4)) (omega arith) ∙ room (omega arith) more) in
        let at = length_at (put_slot pages n slot) (suc (n / 4)) (omega arith) (with_it (omega arith)) (omega arith) in omega arith)
        (λ last. let all = length_full (put_slot pages n slot) (λ k l. with_it (omega arith) k (omega arith)) in omega arith)
        (cases_lt (suc (n / 4)) (length pages)))
        (cases_lt (n % 4) 3)
