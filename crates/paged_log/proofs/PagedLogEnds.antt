-- The slots of pages by their numbers, and where the log of pages ends.
use Rattle.std.proofs.Common.{◌≡◌, ℕ, zero, suc, ◌+◌, ◌*◌, ◌<◌, ◌≤◌, ◌⊎◌, List, [], ◌∷◌, ◌++◌, length, get_or, take, sym, refl, ap, ◌∙◌, inl, inr, ⊎_elim, arith}
use Rattle.std.proofs.lemmas.List.{take-append-le, take_all}
use Rattle.std.proofs.lemmas.Bool.{cases_lt, lt-ltb, le-ltb}
use Rattle.paged_log.specs.PagedLogsSound.{length_first}
use Rattle.paged_log.specs.PagedLogs.{count_of, slot_at, first_slots, log_length}

pub first_same : (ps qs : List (List ℕ)) (n : ℕ) → ((k : ℕ) → k < n → slot_at ps k ≡ slot_at qs k) → first_slots ps n ≡ first_slots qs n
first_same ps qs zero h = refl
first_same ps qs (suc n) h =
    ap (λ (l : List (List ℕ)). l ++ slot_at ps n ∷ []) (first_same ps qs n (λ k l. h k (omega arith)))
    ∙ ap (λ (x : List ℕ). first_slots qs n ++ x ∷ []) (h n (omega arith))

pub take_first : (pages : List (List ℕ)) (n k : ℕ) → k ≤ n → take k (first_slots pages n) ≡ first_slots pages k
take_first pages zero k h = let z : k ≡ 0 = omega arith in rw z refl
take_first pages (suc n) k h =
    let e = length_first pages n in
    ⊎_elim
    (λ l. take-append-le k (first_slots pages n) (slot_at pages n ∷ []) (omega arith) ∙ take_first pages n k (omega arith))
    (λ l. let same : k ≡ suc n = omega arith in
    take_all k (first_slots pages (suc n)) (let m = length_first pages (suc n) in omega arith) ∙ ap (first_slots pages) (sym same))
    (cases_lt k (suc n))

-- where the log ends
pub length_at : (pages : List (List ℕ)) (p : ℕ) → p < length pages → ((k : ℕ) → k < p → 4 ≤ count_of (get_or pages k []))
    → count_of (get_or pages p []) < 4 → log_length pages ≡ 4 * p + count_of (get_or pages p [])
length_at [] p h full less = absurd (omega arith)
length_at (page ∷ pages) zero h full less = rw (lt-ltb (count_of page) 4 less) (omega arith)
length_at (page ∷ pages) (suc p) h full less =
    let i = length_at pages p (omega arith) (λ k l. full (suc k) (omega arith)) less in
    rw (le-ltb (count_of page) 4 (full 0 (omega arith))) (omega arith)

pub length_full : (pages : List (List ℕ)) → ((k : ℕ) → k < length pages → 4 ≤ count_of (get_or pages k [])) → log_length pages ≡ 4 * length pages
length_full [] full = refl
length_full (page ∷ pages) full =
    let i = length_full pages (λ k l. full (suc k) (omega arith)) in
    rw (le-ltb (count_of page) 4 (full 0 (omega arith))) (omega arith)

pub length_most : (pages : List (List ℕ)) → log_length pages ≤ 4 * length pages
length_most [] = omega arith
length_most (page ∷ pages) =
    let i = length_most pages in
    ⊎_elim (λ l. rw (lt-ltb (count_of page) 4 l) (omega arith)) (λ l. rw (le-ltb (count_of page) 4 l) (omega arith)) (cases_lt (count_of page) 4)

-- what the end says of the counts
one_page : (page : List ℕ) (pages : List (List ℕ)) → ((count_of page < 4) × (log_length (page ∷ pages) ≡ count_of page))
    ⊎ ((4 ≤ count_of page) × (log_length (page ∷ pages) ≡ 4 + log_length pages))
one_page page pages = ⊎_elim
    (λ l. inl (l, rw (lt-ltb (count_of page) 4 l) refl))
    (λ l. inr (l, rw (le-ltb (count_of page) 4 l) refl))
    (cases_lt (count_of page) 4)

pub full_before : (pages : List (List ℕ)) (k : ℕ) → 4 * k + 4 ≤ log_length pages → 4 ≤ count_of (get_or pages k [])
full_before [] k h = absurd (omega arith)
full_before (page ∷ pages) zero h = ⊎_elim (λ l. omega arith) (λ l. l.0) (one_page page pages)
full_before (page ∷ pages) (suc k) h =
    full_before pages k (⊎_elim (λ l. absurd (omega arith)) (λ l. omega arith) (one_page page pages))

pub count_there : (pages : List (List ℕ)) (p c : ℕ) → c < 4 → p < length pages → log_length pages ≡ 4 * p + c → count_of (get_or pages p []) ≡ c
count_there [] p c few h e = absurd (omega arith)
count_there (page ∷ pages) zero c few h e = ⊎_elim (λ l. omega arith) (λ l. absurd (omega arith)) (one_page page pages)
count_there (page ∷ pages) (suc p) c few h e =
    count_there pages p c few (omega arith) (⊎_elim (λ l. absurd (omega arith)) (λ l. omega arith) (one_page page pages))
