-- Pages below 64, none of them twice, are at most 64. Assumes nothing.
use Rattle.std.proofs.Common.{◌≡◌, ℕ, suc, ◌<◌, ◌≤◌, Bool, true, false, cond, ◌||◌, eqb, List, [], ◌∷◌, ◌++◌, map, length, is_some, Some, None, Option, refl, sym, ap, subst}
use Rattle.std.specs.List.{IsDistinct, list_any}
use Rattle.std.specs.Option.{option_map}
use Rattle.std.proofs.lemmas.Bool.{eqb-true, eqb-false, ne_eqb, true≢false}
use Rattle.std.proofs.lemmas.Map.Steps.{length-le_from_distinct_below}
use Rattle.rules.specs.Tables.{Dirty, find_page}
use Rattle.tables.specs.Places.{PagesOnce}

abbrev pages : Dirty → List ℕ
pages dirty = map (λ x. x.page) dirty

-- a page that is not found is no page of the table
absent : (p : ℕ) (xs : Dirty) → is_some (find_page p xs) ≡ false → IsDistinct eqb (pages xs) → IsDistinct eqb (p ∷ pages xs)
unfolding IsDistinct
absent p [] e d = (tt, tt)
absent p (x ∷ xs) e d = go (eqb x.page p) refl e (λ n. absent p xs n d.1)
  where
    go : (b : Bool) → eqb x.page p ≡ b → is_some (cond b (Some x) (find_page p xs)) ≡ false
        → (is_some (find_page p xs) ≡ false → IsDistinct eqb (p ∷ pages xs)) → IsDistinct eqb (p ∷ pages (x ∷ xs))
    go true q n more = absurd (true≢false n)
    go false q n more = ((ne_eqb p x.page (λ z. eqb-false x.page p q (sym z)), (more n).0), d)

distinct : (xs : Dirty) → PagesOnce xs → IsDistinct eqb (pages xs)
unfolding IsDistinct
distinct [] h = tt
distinct (x ∷ xs) h = absent x.page xs h.1 (distinct xs h.2)

below : (xs : Dirty) → PagesOnce xs → (q : ℕ) → list_any (eqb q) (pages xs) ≡ true → q < 64
below [] h q e = absurd (true≢false (sym e))
below (x ∷ xs) h q e = go (eqb q x.page) refl e (below xs h.2 q)
  where
    go : (b : Bool) → eqb q x.page ≡ b → (b || list_any (eqb q) (pages xs)) ≡ true → (list_any (eqb q) (pages xs) ≡ true → q < 64) → q < 64
    go true z n more = subst (λ k. k < 64) (sym (eqb-true q x.page z)) h.0
    go false z n more = more n

length_pages : (xs : Dirty) → length (pages xs) ≡ length xs
length_pages [] = refl
length_pages (x ∷ xs) = ap suc (length_pages xs)

at_most : (xs : Dirty) → PagesOnce xs → length xs ≤ 64
at_most xs h = subst (λ n. n ≤ 64) (length_pages xs) (length-le_from_distinct_below (pages xs) 64 (distinct xs h) (below xs h))

-- a page that is not found leaves a place for it
pub has_place : (p : ℕ) (xs : Dirty) → p < 64 → is_some (find_page p xs) ≡ false → PagesOnce xs → length xs < 64
has_place p xs lt e h = at_most (record { page = p; start = 0 } ∷ xs) (lt, e, h)

-- nor is another page found where it enters
still : (p s q : ℕ) (xs : Dirty) → eqb p q ≡ false → is_some (find_page q xs) ≡ false → is_some (find_page q (xs ++ record { page = p; start = s } ∷ [])) ≡ false
still p s q [] apart n = rw apart refl
still p s q (x ∷ xs) apart n = there (eqb x.page q) n (still p s q xs apart)
  where
    there : (b : Bool) → is_some (cond b (Some x) (find_page q xs)) ≡ false
        → (is_some (find_page q xs) ≡ false → is_some (find_page q (xs ++ record { page = p; start = s } ∷ [])) ≡ false)
        → is_some (cond b (Some x) (find_page q (xs ++ record { page = p; start = s } ∷ []))) ≡ false
    there true n more = absurd (true≢false n)
    there false n more = more n

-- and so it enters once
pub once_more : (p s : ℕ) (xs : Dirty) → p < 64 → is_some (find_page p xs) ≡ false → PagesOnce xs → PagesOnce (xs ++ record { page = p; start = s } ∷ [])
once_more p s [] lt e h = (lt, refl, tt)
once_more p s (x ∷ xs) lt e h = go (eqb x.page p) refl e (λ n. once_more p s xs lt n h.2)
  where
    go : (b : Bool) → eqb x.page p ≡ b → is_some (cond b (Some x) (find_page p xs)) ≡ false
        → (is_some (find_page p xs) ≡ false → PagesOnce (xs ++ record { page = p; start = s } ∷ [])) → PagesOnce (x ∷ (xs ++ record { page = p; start = s } ∷ []))
    go true q n more = absurd (true≢false n)
    go false q n more = (h.0, still p s x.page xs (ne_eqb p x.page (λ z. eqb-false x.page p q (sym z))) h.1, more n)

-- what is not found by reference is not found
pub not_found : {A B : Type 0} (f : A → B) (r : Option A) {o : Option B} → option_map f r ≡ o → is_some r ≡ false → is_some o ≡ false
not_found f None e n = sym (ap is_some e)
not_found f (Some x) e n = absurd (true≢false n)
