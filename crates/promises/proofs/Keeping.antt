-- A filter of a list: what it keeps stands in the list, and what it does not keep may as well be gone.
use Rattle.std.proofs.Common.{◌≡◌, Bool, true, false, cond, List, [], ◌∷◌, sym, ap, ◌∙◌}
use Rattle.recovery_log.specs.Log.{rest}
use Rattle.promises.proofs.Membership.{In, here, there}

abbrev pub keep : {A : Type 0} → (A → Bool) → List A → List A
keep f [] = []
keep f (x ∷ xs) = cond (f x) (x ∷ keep f xs) (keep f xs)

-- the first, where it is not kept
pub keep_rest : {A : Type 0} (f : A → Bool) (xs : List A) (x : A) (ys : List A) → xs ≡ x ∷ ys → f x ≡ false → keep f (rest xs) ≡ keep f xs
keep_rest f xs x ys e q = ap (λ zs. keep f (rest zs)) e ∙ sym (ap (keep f) e ∙ rw q)

pub in_none : {A : Type 0} (x : A) → In x [] → ⊥
in_none x i = elim i [ ]

pub in_rest : {A : Type 0} (x : A) (xs : List A) → In x (rest xs) → In x xs
in_rest x [] i = i
in_rest x (y ∷ xs) i = there i

pub in_keep : {A : Type 0} (f : A → Bool) (x : A) (xs : List A) → f x ≡ true → In x xs → In x (keep f xs)
in_keep f x [] e i = i
in_keep f x (y ∷ ys) e (here q) = rw (ap f (sym q) ∙ e) (here q)
in_keep f x (y ∷ ys) e (there i) = go (f y) (in_keep f x ys e i)
  where
    go : (t : Bool) → In x (keep f ys) → In x (cond t (y ∷ keep f ys) (keep f ys))
    go true k = there k
    go false k = k

pub in_kept : {A : Type 0} (f : A → Bool) (x : A) (xs : List A) → In x (keep f xs) → In x xs
in_kept f x [] i = i
in_kept f x (y ∷ ys) i = go (f y) i (in_kept f x ys)
  where
    go : (t : Bool) → In x (cond t (y ∷ keep f ys) (keep f ys)) → (In x (keep f ys) → In x ys) → In x (y ∷ ys)
    go true (here q) k = here q
    go true (there i) k = there (k i)
    go false i k = there (k i)
