-- The words of the tables in the words of the library.
use Rattle.std.proofs.Common.{◌≡◌, ℕ, ◌+◌, min, Bool, true, false, cond, not, ◌&&◌, ◌||◌, eqb, ltb, List, [], ◌∷◌, map, refl, ap, ◌∙◌, Some, ◌<◌, ◌++◌, length, take, drop, reverse, get_or, set, ◌≤◌, None, arith}
use Rattle.std.specs.List.{find, filter, list_any, position_or_len, position, insert, reduce, fold}
use Rattle.std.specs.Option.{unwrap_or}
use Rattle.std.specs.Bool.{then_some}
use native.Mathlib.Numerals.{one-add}
use Rattle.std.proofs.lemmas.List.{reverse-append}
use Rattle.std.proofs.lemmas.List.Sums.{prefix_len-le-length, fold-append}
use Rattle.std.proofs.lemmas.Bool.{lt-ltb}
use Rattle.std.proofs.lemmas.Bool.Decides.{nat_tests}
use Rattle.rules.specs.declared.table.JobEntry.{JobEntry}
use Rattle.rules.specs.Restart.{latest_of, latest}
use Rattle.rules.specs.Tables.{Jobs, Dirty, entered, find_job, holds_page, held_by, held_by_another, is_held, with_next, with_hold, without_job, find_page, least_from, least_start}
use Rattle.std.proofs.lemmas.List.Edits.{map_over_more}
use Rattle.tables.specs.Entry.{of_job}

-- questions
pub find_job_is : (j : ℕ) (xs : Jobs) → find_job j xs ≡ find (λ x. eqb x.job j) xs
find_job_is j [] = refl
find_job_is j (x ∷ xs) = ap (cond (eqb x.job j) (Some x)) (find_job_is j xs)

pub held_by_is : (j p : ℕ) (xs : Jobs) → held_by j p xs ≡ list_any (λ x. eqb x.job j && holds_page p x) xs
held_by_is j p [] = refl
held_by_is j p (x ∷ xs) = ap (λ b. (eqb x.job j && holds_page p x) || b) (held_by_is j p xs)

pub held_by_another_is : (j p : ℕ) (xs : Jobs) → held_by_another j p xs ≡ list_any (λ x. not (eqb x.job j) && holds_page p x) xs
held_by_another_is j p [] = refl
held_by_another_is j p (x ∷ xs) = ap (λ b. cond (eqb x.job j) b (holds_page p x || b)) (held_by_another_is j p xs) ∙ turned (eqb x.job j) _ _
  where
    turned : (b h r : Bool) → cond b r (h || r) ≡ ((not b && h) || r)
    turned true h r = refl
    turned false h r = refl

pub is_held_is : (p : ℕ) (xs : Jobs) → is_held p xs ≡ list_any (holds_page p) xs
is_held_is p [] = refl
is_held_is p (x ∷ xs) = ap (λ b. holds_page p x || b) (is_held_is p xs)

pub find_page_is : (p : ℕ) (xs : Dirty) → find_page p xs ≡ find (λ x. eqb x.page p) xs
find_page_is p [] = refl
find_page_is p (x ∷ xs) = ap (cond (eqb x.page p) (Some x)) (find_page_is p xs)

pub least_start_is : (xs : Dirty) → then_some (ltb 0 (length xs)) (least_start xs) ≡ reduce min (map (λ x. x.start) xs)
least_start_is [] = refl
least_start_is (x ∷ xs) = ap (λ b. then_some b (least_start (x ∷ xs))) (lt-ltb 0 (length (x ∷ xs)) (omega arith)) ∙ ap Some (from x.start xs)
  where
    from : (n : ℕ) (xs : Dirty) → least_from n xs ≡ fold min n (map (λ x. x.start) xs)
    from n [] = refl
    from n (x ∷ xs) = from (min n x.start) xs

pub latest_is : (xs : Jobs) → fold (λ best x. Some (latest_of x best)) None (reverse xs) ≡ latest xs
latest_is [] = refl
latest_is (x ∷ xs) = rw (reverse-append (x ∷ []) xs, fold-append) (ap (λ best. Some (latest_of x best)) (latest_is xs))

-- entries that leave, and the place of one that enters
pub without_job_is : (j : ℕ) (xs : Jobs) → without_job j xs ≡ filter (λ x. not (eqb x.job j)) xs
without_job_is j [] = refl
without_job_is j (x ∷ xs) = ap (λ r. cond (eqb x.job j) r (x ∷ r)) (without_job_is j xs) ∙ turned (eqb x.job j) _ _
  where
    turned : (b : Bool) (r s : Jobs) → cond b r s ≡ cond (not b) s r
    turned true r s = refl
    turned false r s = refl

pub entered_is : (e : JobEntry) (xs : Jobs) → entered e xs ≡ insert xs (position_or_len (λ x. ltb e.job x.job) xs) e
entered_is e [] = refl
entered_is e (x ∷ xs) = here (ltb e.job x.job) (entered e xs) (position_or_len (λ y. ltb e.job y.job) xs) (entered_is e xs)
  where
    here : (b : Bool) (r : Jobs) (n : ℕ) → r ≡ insert xs n e → cond b (e ∷ x ∷ xs) (x ∷ r) ≡ insert (x ∷ xs) (cond (not b) (1 + n) 0) e
    here true r n i = refl
    here false r n i = rw one-add (ap (λ r. x ∷ r) i)

-- the first place that passes, or the end
pub first_place : {X : Type 0} (p : X → Bool) (xs : List X) → unwrap_or (position p xs) (length xs) ≡ position_or_len p xs
first_place p xs = at (position_or_len p xs) (length xs) (prefix_len-le-length _ xs)
  where
    at : (n l : ℕ) → n ≤ l → unwrap_or (cond (ltb n l) (Some n) None) l ≡ n
    at n l h = grind (arith, nat_tests)

-- one entry more is changed
pub changed_more : (g : JobEntry → JobEntry) (xs ys : Jobs) (i : ℕ) (x y : JobEntry) → i < length xs → ys ≡ map g (take i xs) ++ drop i xs
    → x ≡ get_or ys i x → y ≡ g x → set ys i y ≡ map g (take (i + 1) xs) ++ drop (i + 1) xs
changed_more g xs ys i x y h so at is = ap (set ys i) is ∙ map_over_more g xs ys i x h so at

-- what each change of a job makes of an entry
abbrev pub its_next : ℕ → JobEntry → JobEntry
its_next n x = record { job = x.job; next = n; holds = x.holds }

abbrev pub its_hold : ℕ → JobEntry → JobEntry
its_hold p x = record { job = x.job; next = x.next; holds = set x.holds p true }

pub with_next_is : (j n : ℕ) (xs : Jobs) → with_next j n xs ≡ map (of_job j (its_next n)) xs
with_next_is j n [] = refl
with_next_is j n (x ∷ xs) = ap (λ r. of_job j (its_next n) x ∷ r) (with_next_is j n xs)

pub with_hold_is : (j p : ℕ) (xs : Jobs) → with_hold j p xs ≡ map (of_job j (its_hold p)) xs
with_hold_is j p [] = refl
with_hold_is j p (x ∷ xs) = ap (λ r. of_job j (its_hold p) x ∷ r) (with_hold_is j p xs)
