-- The table of jobs with and without what they hold, and who holds a page.
use Rattle.std.proofs.Common.{◌≡◌, ℕ, zero, suc, Bool, true, false, cond, not, ◌&&◌, ◌||◌, eqb, ltb, ◌⊎◌, List, [], ◌∷◌, length, get_or, set, replicate, is_some, Some, unwrap_or, sym, refl, ap, ◌∙◌, inl, inr, ⊎_elim, arith}
use Rattle.std.specs.Option.{option_map}
use Rattle.std.proofs.lemmas.Bool.{eqb-true, false≢true, true≢false, and_parts, and_from, or_cases, or_parts, or_from, or_left, or_right, not_from_true}
use Rattle.std.proofs.lemmas.Bool.Decides.{nat_tests}
use Rattle.rules.specs.Service.{each_held, holds_of}
use Rattle.rules.specs.Tables.{Jobs, new_job, entered, find_job, is_job, next_of, with_next, without_job, holds_page, with_hold, held_by, held_by_another, is_held}
use Rattle.promises.proofs.Invariants.{bare}

-- Without what they hold

pub bare_length : (jobs : Jobs) → length (bare jobs) ≡ length jobs
bare_length [] = refl
bare_length (x ∷ xs) = ap suc (bare_length xs)

pub bare_has : (j : ℕ) (jobs : Jobs) → is_job j (bare jobs) ≡ is_job j jobs
bare_has j [] = refl
bare_has j (x ∷ xs) = go (eqb x.job j) (bare_has j xs)
  where
    go : (t : Bool) → is_job j (bare xs) ≡ is_job j xs → is_some (cond t (Some (new_job x.job x.next)) (find_job j (bare xs))) ≡ is_some (cond t (Some x) (find_job j xs))
    go true k = refl
    go false k = k

pub bare_next : (j : ℕ) (jobs : Jobs) → next_of j (bare jobs) ≡ next_of j jobs
bare_next j [] = refl
bare_next j (x ∷ xs) = go (eqb x.job j) (bare_next j xs)
  where
    go : (t : Bool) → next_of j (bare xs) ≡ next_of j xs
        → unwrap_or (option_map (λ e. e.next) (cond t (Some (new_job x.job x.next)) (find_job j (bare xs)))) 0 ≡ unwrap_or (option_map (λ e. e.next) (cond t (Some x) (find_job j xs))) 0
    go true k = refl
    go false k = k

pub bare_with_next : (j n : ℕ) (jobs : Jobs) → bare (with_next j n jobs) ≡ with_next j n (bare jobs)
bare_with_next j n [] = refl
bare_with_next j n (x ∷ xs) = go (eqb x.job j) (bare_with_next j n xs)
  where
    go : (t : Bool) → bare (with_next j n xs) ≡ with_next j n (bare xs)
        → bare (cond t (record { job = x.job; next = n; holds = x.holds }) x ∷ with_next j n xs)
        ≡ cond t (new_job x.job n) (new_job x.job x.next) ∷ with_next j n (bare xs)
    go true k = ap (λ (t : Jobs). new_job x.job n ∷ t) k
    go false k = ap (λ (t : Jobs). new_job x.job x.next ∷ t) k

pub bare_with_hold : (j p : ℕ) (jobs : Jobs) → bare (with_hold j p jobs) ≡ bare jobs
bare_with_hold j p [] = refl
bare_with_hold j p (x ∷ xs) = go (eqb x.job j) (bare_with_hold j p xs)
  where
    go : (t : Bool) → bare (with_hold j p xs) ≡ bare xs
        → bare (cond t (record { job = x.job; next = x.next; holds = set x.holds p true }) x ∷ with_hold j p xs) ≡ new_job x.job x.next ∷ bare xs
    go true k = ap (λ (t : Jobs). new_job x.job x.next ∷ t) k
    go false k = ap (λ (t : Jobs). new_job x.job x.next ∷ t) k

pub bare_without : (j : ℕ) (jobs : Jobs) → bare (without_job j jobs) ≡ without_job j (bare jobs)
bare_without j [] = refl
bare_without j (x ∷ xs) = go (eqb x.job j) (bare_without j xs)
  where
    go : (t : Bool) → bare (without_job j xs) ≡ without_job j (bare xs)
        → bare (cond t (without_job j xs) (x ∷ without_job j xs)) ≡ cond t (without_job j (bare xs)) (new_job x.job x.next ∷ without_job j (bare xs))
    go true k = k
    go false k = ap (λ (t : Jobs). new_job x.job x.next ∷ t) k

pub bare_entered : (j n : ℕ) (jobs : Jobs) → bare (entered (new_job j n) jobs) ≡ entered (new_job j n) (bare jobs)
bare_entered j n [] = refl
bare_entered j n (x ∷ xs) = go (ltb j x.job) (bare_entered j n xs)
  where
    go : (t : Bool) → bare (entered (new_job j n) xs) ≡ entered (new_job j n) (bare xs)
        → bare (cond t (new_job j n ∷ x ∷ xs) (x ∷ entered (new_job j n) xs))
        ≡ cond t (new_job j n ∷ new_job x.job x.next ∷ bare xs) (new_job x.job x.next ∷ entered (new_job j n) (bare xs))
    go true k = refl
    go false k = ap (λ (t : Jobs). new_job x.job x.next ∷ t) k

-- No job twice

abbrev pub Distinct : Jobs → Type 0
Distinct [] = Unit {0}
Distinct (x ∷ xs) = (is_job x.job xs ≡ false) × Distinct xs

pub distinct_from_bare : (jobs : Jobs) → Distinct (bare jobs) → Distinct jobs
distinct_from_bare [] h = tt
distinct_from_bare (x ∷ xs) h = (sym (bare_has x.job xs) ∙ h.0, distinct_from_bare xs h.1)

-- A mark set in a row

set_keeps : (hs : List Bool) (p q : ℕ) → get_or hs q false ≡ true → get_or (set hs p true) q false ≡ true
set_keeps [] p q e = e
set_keeps (h ∷ hs) zero zero e = refl
set_keeps (h ∷ hs) zero (suc q) e = e
set_keeps (h ∷ hs) (suc p) zero e = e
set_keeps (h ∷ hs) (suc p) (suc q) e = set_keeps hs p q e

set_only : (hs : List Bool) (p q : ℕ) → get_or (set hs p true) q false ≡ true → (get_or hs q false ≡ true) ⊎ (q ≡ p)
set_only [] p q e = inl e
set_only (h ∷ hs) zero zero e = inr refl
set_only (h ∷ hs) zero (suc q) e = inl e
set_only (h ∷ hs) (suc p) zero e = inl e
set_only (h ∷ hs) (suc p) (suc q) e = ⊎_elim (λ a. inl a) (λ a. inr (ap suc a)) (set_only hs p q e)

-- Who holds a page

pub held_with_next : (j n k p : ℕ) (jobs : Jobs) → held_by k p (with_next j n jobs) ≡ held_by k p jobs
held_with_next j n k p [] = refl
held_with_next j n k p (x ∷ xs) = go (eqb x.job j) (held_with_next j n k p xs)
  where
    go : (t : Bool) → held_by k p (with_next j n xs) ≡ held_by k p xs
        → held_by k p (cond t (record { job = x.job; next = n; holds = x.holds }) x ∷ with_next j n xs) ≡ held_by k p (x ∷ xs)
    go true e = ap (λ (b : Bool). (eqb x.job k && holds_page p x) || b) e
    go false e = ap (λ (b : Bool). (eqb x.job k && holds_page p x) || b) e

pub is_held_with_next : (j n p : ℕ) (jobs : Jobs) → is_held p (with_next j n jobs) ≡ is_held p jobs
is_held_with_next j n p [] = refl
is_held_with_next j n p (x ∷ xs) = go (eqb x.job j) (is_held_with_next j n p xs)
  where
    go : (t : Bool) → is_held p (with_next j n xs) ≡ is_held p xs
        → is_held p (cond t (record { job = x.job; next = n; holds = x.holds }) x ∷ with_next j n xs) ≡ is_held p (x ∷ xs)
    go true e = ap (λ (b : Bool). holds_page p x || b) e
    go false e = ap (λ (b : Bool). holds_page p x || b) e

pub none_held : (n p : ℕ) → get_or (replicate n false) p false ≡ false
none_held zero p = refl
none_held (suc n) zero = refl
none_held (suc n) (suc p) = none_held n p

pub held_entered : (j n k p : ℕ) (jobs : Jobs) → held_by k p (entered (new_job j n) jobs) ≡ held_by k p jobs
held_entered j n k p [] = let e = none_held 64 p in grind (arith, nat_tests)
held_entered j n k p (x ∷ xs) = go (ltb j x.job) (held_entered j n k p xs)
  where
    go : (t : Bool) → held_by k p (entered (new_job j n) xs) ≡ held_by k p xs
        → held_by k p (cond t (new_job j n ∷ x ∷ xs) (x ∷ entered (new_job j n) xs)) ≡ held_by k p (x ∷ xs)
    go true e = let z = none_held 64 p in grind (arith, nat_tests)
    go false e = ap (λ (b : Bool). (eqb x.job k && holds_page p x) || b) e

pub is_held_entered : (j n p : ℕ) (jobs : Jobs) → is_held p (entered (new_job j n) jobs) ≡ is_held p jobs
is_held_entered j n p [] = let e = none_held 64 p in grind (arith, nat_tests)
is_held_entered j n p (x ∷ xs) = go (ltb j x.job) (is_held_entered j n p xs)
  where
    go : (t : Bool) → is_held p (entered (new_job j n) xs) ≡ is_held p xs
        → is_held p (cond t (new_job j n ∷ x ∷ xs) (x ∷ entered (new_job j n) xs)) ≡ is_held p (x ∷ xs)
    go true e = let z = none_held 64 p in grind (arith, nat_tests)
    go false e = ap (λ (b : Bool). holds_page p x || b) e

pub held_is_held : (j p : ℕ) (jobs : Jobs) → held_by j p jobs ≡ true → is_held p jobs ≡ true
held_is_held j p [] h = h
held_is_held j p (x ∷ xs) h = let k = held_is_held j p xs in grind (arith, nat_tests)

pub held_without : (j k p : ℕ) (jobs : Jobs) → (k ≡ j → ⊥) → held_by k p (without_job j jobs) ≡ held_by k p jobs
held_without j k p [] ne = refl
held_without j k p (x ∷ xs) ne = let i = held_without j k p xs ne in grind (arith, nat_tests)

pub held_without_less : (j k p : ℕ) (jobs : Jobs) → held_by k p (without_job j jobs) ≡ true → held_by k p jobs ≡ true
held_without_less j k p [] h = h
held_without_less j k p (x ∷ xs) h = let i = held_without_less j k p xs in grind (arith, nat_tests)

pub freed : (j p : ℕ) (jobs : Jobs) → is_held p (without_job j jobs) ≡ false → is_held p jobs ≡ true → held_by j p jobs ≡ true
freed j p [] h g = g
freed j p (x ∷ xs) h g = let i = freed j p xs in grind (arith, nat_tests)

pub not_another : (j k p : ℕ) (jobs : Jobs) → held_by_another j p jobs ≡ false → held_by k p jobs ≡ true → k ≡ j
not_another j k p [] h g = let z : ◌≡◌ {A = Bool} false true = g in absurd (false≢true z)
not_another j k p (x ∷ xs) h g = let i = not_another j k p xs in grind (arith, nat_tests)

-- A page more is held

pub held_more : (j p k q : ℕ) (jobs : Jobs) → held_by k q jobs ≡ true → held_by k q (with_hold j p jobs) ≡ true
held_more j p k q [] h = h
held_more j p k q (x ∷ xs) h = go (eqb x.job j) (held_more j p k q xs)
  where
    kept : get_or x.holds q false ≡ true → get_or (set x.holds p true) q false ≡ true
    kept e = set_keeps x.holds p q e

    go : (t : Bool) → (held_by k q xs ≡ true → held_by k q (with_hold j p xs) ≡ true)
        → held_by k q (cond t (record { job = x.job; next = x.next; holds = set x.holds p true }) x ∷ with_hold j p xs) ≡ true
    go true i = ⊎_elim
        (λ e. let a = and_parts (eqb x.job k) (holds_page q x) e in or_left _ _ (and_from _ _ a.0 (kept a.1)))
        (λ e. or_right _ _ (i e)) (or_cases (eqb x.job k && holds_page q x) (held_by k q xs) h)
    go false i = ⊎_elim (λ e. or_left _ _ e) (λ e. or_right _ _ (i e)) (or_cases (eqb x.job k && holds_page q x) (held_by k q xs) h)

pub is_held_more : (j p q : ℕ) (jobs : Jobs) → is_held q (with_hold j p jobs) ≡ false → is_held q jobs ≡ false
is_held_more j p q [] h = h
is_held_more j p q (x ∷ xs) h = go (eqb x.job j) (is_held_more j p q xs) h
  where
    kept : (b : Bool) → get_or x.holds q false ≡ b → get_or (set x.holds p true) q false ≡ false → b ≡ false
    kept true e f = let z = sym (set_keeps x.holds p q e) ∙ f in absurd (true≢false z)
    kept false e f = refl

    go : (t : Bool) → (is_held q (with_hold j p xs) ≡ false → is_held q xs ≡ false)
        → is_held q (cond t (record { job = x.job; next = x.next; holds = set x.holds p true }) x ∷ with_hold j p xs) ≡ false → is_held q (x ∷ xs) ≡ false
    go true i f = let a = or_parts _ _ f in or_from _ _ (kept (holds_page q x) refl a.0) (i a.1)
    go false i f = let a = or_parts _ _ f in or_from _ _ a.0 (i a.1)

-- only that page by that job
pub held_only : (j p k q : ℕ) (jobs : Jobs) → held_by k q (with_hold j p jobs) ≡ true → (held_by k q jobs ≡ true) ⊎ ((k ≡ j) × (q ≡ p))
held_only j p k q [] h = inl h
held_only j p k q (x ∷ xs) h = go (eqb x.job j) refl h (held_only j p k q xs)
  where
    old : (held_by k q xs ≡ true) ⊎ ((k ≡ j) × (q ≡ p)) → (held_by k q (x ∷ xs) ≡ true) ⊎ ((k ≡ j) × (q ≡ p))
    old s = ⊎_elim (λ e. inl (or_right (eqb x.job k && holds_page q x) (held_by k q xs) e)) (λ e. inr e) s

    go : (t : Bool) → eqb x.job j ≡ t → held_by k q (cond t (record { job = x.job; next = x.next; holds = set x.holds p true }) x ∷ with_hold j p xs) ≡ true
        → (held_by k q (with_hold j p xs) ≡ true → (held_by k q xs ≡ true) ⊎ ((k ≡ j) × (q ≡ p))) → (held_by k q (x ∷ xs) ≡ true) ⊎ ((k ≡ j) × (q ≡ p))
    go false e f i = ⊎_elim (λ a. inl (or_left _ _ a)) (λ a. old (i a)) (or_cases (eqb x.job k && holds_page q x) (held_by k q (with_hold j p xs)) f)
    go true e f i = ⊎_elim
        (λ a. let b = and_parts (eqb x.job k) (get_or (set x.holds p true) q false) a in here_or b.0 b.1) (λ a. old (i a))
        (or_cases (eqb x.job k && get_or (set x.holds p true) q false) (held_by k q (with_hold j p xs)) f)
      where
        here_or : eqb x.job k ≡ true → get_or (set x.holds p true) q false ≡ true → (held_by k q (x ∷ xs) ≡ true) ⊎ ((k ≡ j) × (q ≡ p))
        here_or a b = ⊎_elim (λ g. inl (or_left _ _ (and_from _ _ a g))) (λ g. inr (sym (eqb-true _ _ a) ∙ eqb-true _ _ e, g)) (set_only x.holds p q b)

-- A test of each page that a job holds

pub each_of : (ok : ℕ → Bool) (hs : List Bool) (p : ℕ) → each_held ok hs ≡ true → get_or hs p false ≡ true → ok p ≡ true
each_of ok [] p h g = let z : ◌≡◌ {A = Bool} false true = g in absurd (false≢true z)
each_of ok (b ∷ hs) zero h g = let a = and_parts (not b || ok 0) (each_held (λ q. ok (suc q)) hs) h in ⊎_elim
    (λ e. let z = sym (not_from_true b g) ∙ e in absurd (false≢true z)) (λ e. e) (or_cases (not b) (ok 0) a.0)
each_of ok (b ∷ hs) (suc p) h g = each_of (λ q. ok (suc q)) hs p (and_parts (not b || ok 0) (each_held (λ q. ok (suc q)) hs) h).1 g

pub holds_of_held : (j p : ℕ) (jobs : Jobs) → Distinct jobs → held_by j p jobs ≡ true → get_or (holds_of j jobs) p false ≡ true
holds_of_held j p [] d h = h
holds_of_held j p (x ∷ xs) d h = go (eqb x.job j) refl h (holds_of_held j p xs d.1)
  where
    none : (k : ℕ) (ys : Jobs) → is_job k ys ≡ false → held_by k p ys ≡ false
    none k [] e = refl
    none k (y ∷ ys) e = within (eqb y.job k) e (none k ys)
      where
        within : (t : Bool) → is_some (cond t (Some y) (find_job k ys)) ≡ false → (is_job k ys ≡ false → held_by k p ys ≡ false) → ((t && holds_page p y) || held_by k p ys) ≡ false
        within true e i = absurd (true≢false e)
        within false e i = i e

    go : (t : Bool) → eqb x.job j ≡ t → ((t && holds_page p x) || held_by j p xs) ≡ true → (held_by j p xs ≡ true → get_or (holds_of j xs) p false ≡ true)
        → get_or (cond t x.holds (holds_of j xs)) p false ≡ true
    go true e g i = ⊎_elim (λ a. a) (λ a. absurd (true≢false (sym a ∙ none j xs (ap (λ (k : ℕ). is_job k xs) (sym (eqb-true _ _ e)) ∙ d.0)))) (or_cases (holds_page p x) (held_by j p xs) g)
    go false e g i = i g
