-- Tables of jobs, whatever stands in them: what is found, and their order. Assumes nothing.
use Rattle.std.proofs.Common.{◌≡◌, ℕ, suc, ◌<◌, ◌≤◌, Bool, true, false, cond, eqb, ltb, [], ◌∷◌, ◌++◌, length, Some, None, sym, refl, ap, subst, arith}
use Rattle.std.specs.Option.{option_map}
use Rattle.std.proofs.lemmas.Bool.{eq-eqb, ne_eqb, ltb-true, ltb-false, le-ltb}
use Rattle.std.proofs.lemmas.Bool.Decides.{nat_tests}
use Rattle.rules.specs.declared.table.JobEntry.{JobEntry}
use Rattle.rules.specs.Tables.{Jobs, entered, find_job, with_next, without_job}
use Rattle.promises.proofs.Membership.{In, here, there}

-- What is found, and how many there are

abbrev pub at_next : ℕ → JobEntry → JobEntry
at_next n e = record { job = e.job; next = n; holds = e.holds }

pub find_with_next : (j k n : ℕ) (t : Jobs) → find_job j (with_next k n t) ≡ cond (eqb k j) (option_map (at_next n) (find_job j t)) (find_job j t)
find_with_next j k n [] = grind (arith, nat_tests)
find_with_next j k n (x ∷ xs) = let ih = find_with_next j k n xs in grind (arith, nat_tests)

pub find_without_job : (j k : ℕ) (t : Jobs) → find_job j (without_job k t) ≡ cond (eqb k j) None (find_job j t)
find_without_job j k [] = grind (arith, nat_tests)
find_without_job j k (x ∷ xs) = let ih = find_without_job j k xs in grind (arith, nat_tests)

pub find_entered : (j : ℕ) (e : JobEntry) (t : Jobs) → find_job e.job t ≡ None → find_job j (entered e t) ≡ cond (eqb e.job j) (Some e) (find_job j t)
find_entered j e [] n = refl
find_entered j e (x ∷ xs) n = let ih = find_entered j e xs in grind (arith, nat_tests)

pub length_with_next : (k n : ℕ) (t : Jobs) → length (with_next k n t) ≡ length t
length_with_next k n [] = refl
length_with_next k n (x ∷ xs) = ap suc (length_with_next k n xs)

pub length_without_job : (k : ℕ) (t : Jobs) → length (without_job k t) ≤ length t
length_without_job k [] = omega arith
length_without_job k (x ∷ xs) = let ih = length_without_job k xs in grind (arith, nat_tests)

pub length_entered : (e : JobEntry) (t : Jobs) → length (entered e t) ≡ suc (length t)
length_entered e [] = refl
length_entered e (x ∷ xs) = let ih = length_entered e xs in grind (arith, nat_tests)

-- all that follows is of jobs above
abbrev pub Above : ℕ → Jobs → Type 0
Above n [] = Unit {0}
Above n (x ∷ xs) = (n < x.job) × Above n xs

abbrev pub Ascending : Jobs → Type 0
Ascending [] = Unit {0}
Ascending (x ∷ xs) = Above x.job xs × Ascending xs

above_lower : (m n : ℕ) (t : Jobs) → m < n → Above n t → Above m t
above_lower m n [] lt a = tt
above_lower m n (x ∷ xs) lt a = let l = a.0 in (omega arith, above_lower m n xs lt a.1)

above_with_next : (m k n : ℕ) (t : Jobs) → Above m t → Above m (with_next k n t)
above_with_next m k n [] a = tt
above_with_next m k n (x ∷ xs) a = (go (eqb x.job k), above_with_next m k n xs a.1)
  where
    go : (b : Bool) → m < (cond b (at_next n x) x).job
    go true = a.0
    go false = a.0

above_without_job : (m k : ℕ) (t : Jobs) → Above m t → Above m (without_job k t)
above_without_job m k [] a = tt
above_without_job m k (x ∷ xs) a = go (eqb x.job k) (above_without_job m k xs a.1)
  where
    go : (b : Bool) → Above m (without_job k xs) → Above m (cond b (without_job k xs) (x ∷ without_job k xs))
    go true ih = ih
    go false ih = (a.0, ih)

above_entered : (m : ℕ) (e : JobEntry) (t : Jobs) → m < e.job → Above m t → Above m (entered e t)
above_entered m e [] lt a = (lt, tt)
above_entered m e (x ∷ xs) lt a = go (ltb e.job x.job) (above_entered m e xs lt a.1)
  where
    go : (b : Bool) → Above m (entered e xs) → Above m (cond b (e ∷ x ∷ xs) (x ∷ entered e xs))
    go true ih = (lt, a)
    go false ih = (a.0, ih)

pub ascending_with_next : (k n : ℕ) (t : Jobs) → Ascending t → Ascending (with_next k n t)
ascending_with_next k n [] a = tt
ascending_with_next k n (x ∷ xs) a = go (eqb x.job k) (ascending_with_next k n xs a.1)
  where
    go : (b : Bool) → Ascending (with_next k n xs) → Ascending (cond b (at_next n x) x ∷ with_next k n xs)
    go true ih = (above_with_next x.job k n xs a.0, ih)
    go false ih = (above_with_next x.job k n xs a.0, ih)

pub ascending_without_job : (k : ℕ) (t : Jobs) → Ascending t → Ascending (without_job k t)
ascending_without_job k [] a = tt
ascending_without_job k (x ∷ xs) a = go (eqb x.job k) (ascending_without_job k xs a.1)
  where
    go : (b : Bool) → Ascending (without_job k xs) → Ascending (cond b (without_job k xs) (x ∷ without_job k xs))
    go true ih = ih
    go false ih = (above_without_job x.job k xs a.0, ih)

pub ascending_entered : (e : JobEntry) (t : Jobs) → find_job e.job t ≡ None → Ascending t → Ascending (entered e t)
ascending_entered e [] n a = (tt, tt)
ascending_entered e (x ∷ xs) n a = go (ltb e.job x.job) refl (ascending_entered e xs away a.1)
  where
    away : find_job e.job xs ≡ None
    away = grind (arith, nat_tests)

    other : x.job ≡ e.job → ⊥
    other p = let q = eq-eqb x.job e.job p in grind (arith, nat_tests)

    go : (b : Bool) → ltb e.job x.job ≡ b → Ascending (entered e xs) → Ascending (cond b (e ∷ x ∷ xs) (x ∷ entered e xs))
    go true q ih = let lt = ltb-true e.job x.job q in ((lt, above_lower e.job x.job xs lt a.0), a)
    go false q ih = let le = ltb-false e.job x.job q in (above_entered x.job e xs (omega (arith, other)) a.0, ih)

-- an entry is found by its job
pub above_in : (n : ℕ) (t : Jobs) (e : JobEntry) → Above n t → In e t → n < e.job
above_in n [] e a i = elim i [ ]
above_in n (x ∷ xs) e a (here p) = subst (λ y. n < y.job) (sym p) a.0
above_in n (x ∷ xs) e a (there i) = above_in n xs e a.1 i

pub find_in : (e : JobEntry) (t : Jobs) → Ascending t → In e t → find_job e.job t ≡ Some e
find_in e [] a i = elim i [ ]
find_in e (x ∷ xs) a (here p) = rw (p, eq-eqb x.job x.job refl) refl
find_in e (x ∷ xs) a (there i) = let lt = above_in x.job xs e a.0 i in rw (ne_eqb x.job e.job (λ p. omega arith)) (find_in e xs a.1 i)

-- a job above all others is entered last
pub entered_above : (e : JobEntry) (t : Jobs) → ((x : JobEntry) → In x t → x.job < e.job) → entered e t ≡ t ++ e ∷ []
entered_above e [] most = refl
entered_above e (x ∷ xs) most = let lt = most x (here refl) in rw (le-ltb e.job x.job (omega arith)) (ap (λ t. x ∷ t) (entered_above e xs (λ y i. most y (there i))))

-- a job below all others is not among them
pub without_above : (k : ℕ) (t : Jobs) → Above k t → without_job k t ≡ t
without_above k [] a = refl
without_above k (x ∷ xs) a = let lt = a.0 in rw (ne_eqb x.job k (λ p. omega arith)) (ap (λ t. x ∷ t) (without_above k xs a.1))
