-- Rows of bytes: how they stay bytes when they are cut and joined, and what the tests of a row say.
use Rattle.std.proofs.Common.{◌≡◌, ℕ, zero, suc, ◌+◌, ◌<◌, ◌≤◌, Bool, true, false, eqb, List, [], ◌∷◌, ◌++◌, length, get_or, take, drop, replicate, sym, refl, ap, ◌∙◌, arith, lit<, length-drop, length-take, get_or-drop}
use Rattle.std.proofs.lemmas.List.{take_all}
use Rattle.std.proofs.lemmas.List.Folds.{list_all-append}
use Rattle.std.proofs.lemmas.Bool.{and_parts, and_from, ltb-true, lt-ltb, eqb-true, eqb-false}
use Rattle.format.specs.Bytes.{Bytes, all_bytes, all_zero}

abbrev pub Small : List ℕ → Type 0
Small xs = (k : ℕ) → get_or xs k 0 < 256

pub small_cons : (x : ℕ) (xs : List ℕ) → x < 256 → Small xs → Small (x ∷ xs)
small_cons x xs h p zero = h
small_cons x xs h p (suc k) = p k

pub small_four : (a b c d : ℕ) (xs : List ℕ) → a < 256 → b < 256 → c < 256 → d < 256 → Small xs → Small (a ∷ b ∷ c ∷ d ∷ xs)
small_four a b c d xs p q r s t =
    small_cons a (b ∷ c ∷ d ∷ xs) p (small_cons b (c ∷ d ∷ xs) q (small_cons c (d ∷ xs) r (small_cons d xs s t)))

pub small_append : (xs ys : List ℕ) → Small xs → Small ys → Small (xs ++ ys)
small_append [] ys p q k = q k
small_append (x ∷ xs) ys p q zero = p zero
small_append (x ∷ xs) ys p q (suc k) = small_append xs ys (λ j. p (suc j)) q k

pub small_take : (n : ℕ) (xs : List ℕ) → Small xs → Small (take n xs)
small_take zero xs p k = lit< tt
small_take (suc n) [] p k = lit< tt
small_take (suc n) (x ∷ xs) p zero = p zero
small_take (suc n) (x ∷ xs) p (suc k) = small_take n xs (λ j. p (suc j)) k

pub small_drop : (n : ℕ) (xs : List ℕ) → Small xs → Small (drop n xs)
small_drop n xs p k = rw get_or-drop (p (n + k))

-- what lies from a place on in a longer row
pub bytes_part : (at n m : ℕ) (xs : List ℕ) → at + n ≤ m → Bytes m xs → Bytes n (take n (drop at xs))
bytes_part at n m xs h p = record {
  size = simp (length-take, length-drop) (omega (arith, p.size));
  small = small_take n (drop at xs) (small_drop at xs p.small);
}

pub all_bytes_small : (xs : List ℕ) → all_bytes xs ≡ true → Small xs
all_bytes_small [] e k = lit< tt
all_bytes_small (x ∷ xs) e zero = ltb-true x 256 (and_parts _ _ e).0
all_bytes_small (x ∷ xs) e (suc k) = all_bytes_small xs (and_parts _ _ e).1 k

pub small_all_bytes : (xs : List ℕ) → Small xs → all_bytes xs ≡ true
small_all_bytes [] p = refl
small_all_bytes (x ∷ xs) p = and_from _ _ (lt-ltb x 256 (p zero)) (small_all_bytes xs (λ j. p (suc j)))

pub all_zero_is : (xs : List ℕ) → all_zero xs ≡ true → xs ≡ replicate (length xs) 0
all_zero_is [] e = refl
all_zero_is (x ∷ xs) e = let p = and_parts (eqb x 0) (all_zero xs) e in let h = eqb-true x 0 p.0 in let k = all_zero_is xs p.1 in cc

pub zeros_all_zero : (n : ℕ) → all_zero (replicate n 0) ≡ true
zeros_all_zero zero = refl
zeros_all_zero (suc n) = zeros_all_zero n

pub small_zeros : (n : ℕ) → Small (replicate n 0)
small_zeros zero k = lit< tt
small_zeros (suc n) zero = lit< tt
small_zeros (suc n) (suc k) = small_zeros n k

pub not_empty : (xs : List ℕ) → false ≡ eqb (length xs) 0 → 1 ≤ length xs
not_empty xs e = omega (arith, eqb-false (length xs) 0 (sym e))

pub all_zero_append : (xs ys : List ℕ) → all_zero xs ≡ true → all_zero ys ≡ true → all_zero (xs ++ ys) ≡ true
all_zero_append xs ys e f = list_all-append (λ x. eqb x 0) xs ys ∙ and_from _ _ e f

pub four_and_rest : (xs : List ℕ) → 4 ≤ length xs → xs ≡ get_or xs 0 0 ∷ get_or xs 1 0 ∷ get_or xs 2 0 ∷ get_or xs 3 0 ∷ drop 4 xs
four_and_rest [] h = absurd (omega arith)
four_and_rest (a ∷ []) h = absurd (omega arith)
four_and_rest (a ∷ b ∷ []) h = absurd (omega arith)
four_and_rest (a ∷ b ∷ c ∷ []) h = absurd (omega arith)
four_and_rest (a ∷ b ∷ c ∷ d ∷ xs) h = refl

-- the test of what lies from a place on, cut out as a part
pub all_zero_part : (xs : List ℕ) (i m : ℕ) (t : Bool) → t ≡ all_zero (take m (drop i xs)) → length xs ≤ i + m → all_zero (drop i xs) ≡ t
all_zero_part xs i m t e h =
    let long : length (drop i xs) ≤ m = simp length-drop (omega arith) in
    ap all_zero (sym (take_all m (drop i xs) long)) ∙ sym e
