-- Passes over any log: what holds of the slots read so far holds at the end, and what the steps of analysis make of the tables.
use Rattle.std.proofs.Common.{◌≡◌, ℕ, suc, ◌<◌, ◌≤◌, min, Bool, true, false, cond, eqb, ltb, leb, ◌⊎◌, List, [], ◌∷◌, ◌++◌, length, is_some, Some, None, Ok, Err, Option, Result, sym, refl, subst, inl, inr, ⊎_elim, arith}
use Rattle.std.proofs.lemmas.Bool.{cases_lt, ltb-true, ltb-false, eq-eqb, true≢false}
use Rattle.format.specs.declared.slot.Slot.{Slot}
use Rattle.format.specs.declared.slot.Slot.TheVariants.{Record, Job, Checkpoint}
use Rattle.format.specs.declared.slot.PageRecord.{PageRecord}
use Rattle.recovery_log.specs.Log.{Log, new_number}
use Rattle.rules.specs.declared.refusal.Refusal.{Refusal}
use Rattle.rules.specs.declared.table.JobEntry.{JobEntry}
use Rattle.rules.specs.declared.table.DirtyPage.{DirtyPage as DirtyEntry}
use Rattle.rules.specs.Reading.{at, up_to, then, scan}
use Rattle.rules.specs.Tables.{Jobs, Dirty, entered, with_next, without_job, find_page, with_dirty, least_from, least_start}
use Rattle.promises.proofs.AnyDevicesSlots.{Each}
use Rattle.promises.proofs.AnyDevicesStages.{All, Named, OfRecord}
use Rattle.promises.proofs.Decoded.{at_more, at_zero, at_above}

-- Answers

pub clash : {A E T : Type 0} (e : E) (a : A) → ◌≡◌ {A = Result A E} (Err e) (Ok a) → T
clash e a q = let z : ◌≡◌ {A = ℕ} 0 1 = cc in absurd (omega arith)

-- a step that is taken only under a test
pub ok_cond : {A E : Type 0} (b : Bool) (r : Result A E) (why : E) (a : A) → cond b r (Err why) ≡ Ok a → (b ≡ true) × (r ≡ Ok a)
ok_cond true r why a e = (refl, e)
ok_cond false r why a e = clash why a e

pub ok_unless : {A E : Type 0} (b : Bool) (r : Result A E) (why : E) (a : A) → cond b (Err why) r ≡ Ok a → (b ≡ false) × (r ≡ Ok a)
ok_unless true r why a e = clash why a e
ok_unless false r why a e = (refl, e)

pub ok_same : {A E : Type 0} (a b : A) → ◌≡◌ {A = Result A E} (Ok a) (Ok b) → a ≡ b
ok_same a b e = cc

-- Scans

pub ok_then : {A B E : Type 0} (r : Result A E) (f : A → Result B E) (b : B) → then r f ≡ Ok b → (a : A) × (r ≡ Ok a) × (f a ≡ Ok b)
ok_then (Ok a) f b e = (a, refl, e)
ok_then (Err why) f b e = let z : ◌≡◌ {A = ℕ} 0 1 = cc in absurd (omega arith)

-- what holds of the slots read so far and the state, holds at the end
module _ {C S : Type 0} (from : ℕ) (f : ℕ → Option (Slot C) → S → Result S Refusal) (s : S) (F : ℕ → Option (Slot C) → Type 0) (I : Log C → S → Type 0) (one : 1 ≤ from)
    (start : (M : Log C) → length M < from → I M s)
    (step : (x : Option (Slot C)) (M : Log C) (a b : S) → from ≤ new_number M → F (new_number M) x → I M a → f (new_number M) x a ≡ Ok b → I (x ∷ M) b) where
  pub scanned : (L : Log C) (t : S) → Each F L → scan from f s L ≡ Ok t → I L t
  scanned [] t h e = let same : s ≡ t = cc in subst (I []) same (start [] (omega arith))
  scanned (x ∷ L) t h e = go (ltb (new_number L) from) refl e (λ a q. scanned L a h.1 q)
    where
      go : (b : Bool) → ltb (new_number L) from ≡ b → cond b (Ok s) (then (scan from f s L) (f (new_number L) x)) ≡ Ok t
          → ((a : S) → scan from f s L ≡ Ok a → I L a) → I (x ∷ L) t
      go true q e ih = let same : s ≡ t = cc in subst (I (x ∷ L)) same (start (x ∷ L) (ltb-true (new_number L) from q))
      go false q e ih = let p = ok_then (scan from f s L) (f (new_number L) x) t e in
          step x L p.0 t (ltb-false (new_number L) from q) h.0 (ih p.0 p.1) p.2

module _ {C : Type 0} where
  pub each_all : (P : ℕ → Option (Slot C) → Type 0) (L : Log C) → ((n : ℕ) (x : Option (Slot C)) → n ≤ length L → P n x) → Each P L
  each_all P [] f = tt
  each_all P (x ∷ L) f = (f (new_number L) x (omega arith), each_all P L (λ n y le. f n y (omega arith)))

-- Tables

pub all_more : {A : Type 0} (P Q : A → Type 0) (xs : List A) → ((x : A) → P x → Q x) → All P xs → All Q xs
all_more P Q [] f h = tt
all_more P Q (x ∷ xs) f h = (f x h.0, all_more P Q xs f h.1)

all_append : {A : Type 0} (P : A → Type 0) (xs : List A) (y : A) → All P xs → P y → All P (xs ++ y ∷ [])
all_append P [] y h p = (p, tt)
all_append P (x ∷ xs) y h p = (h.0, all_append P xs y h.1 p)

module _ (n : ℕ) where
  pub named_next : (j k : ℕ) (t : Jobs) → All (Named n) t → All (Named n) (with_next j k t)
  named_next j k [] h = tt
  named_next j k (x ∷ xs) h = (go (eqb x.job j), named_next j k xs h.1)
    where
      go : (b : Bool) → Named n (cond b (record { job = x.job; next = k; holds = x.holds }) x)
      go true = h.0
      go false = h.0

  pub named_without : (j : ℕ) (t : Jobs) → All (Named n) t → All (Named n) (without_job j t)
  named_without j [] h = tt
  named_without j (x ∷ xs) h = go (eqb x.job j) (named_without j xs h.1)
    where
      go : (b : Bool) → All (Named n) (without_job j xs) → All (Named n) (cond b (without_job j xs) (x ∷ without_job j xs))
      go true ih = ih
      go false ih = (h.0, ih)

  pub named_entered : (e : JobEntry) (t : Jobs) → Named n e → All (Named n) t → All (Named n) (entered e t)
  named_entered e [] k h = (k, tt)
  named_entered e (x ∷ xs) k h = go (ltb e.job x.job) (named_entered e xs k h.1)
    where
      go : (b : Bool) → All (Named n) (entered e xs) → All (Named n) (cond b (e ∷ x ∷ xs) (x ∷ entered e xs))
      go true ih = (k, h)
      go false ih = (h.0, ih)

pub later_named : (k n : ℕ) (t : Jobs) → k ≤ n → All (Named k) t → All (Named n) t
later_named k n t le h = all_more (Named k) (Named n) t (λ x i. let one = i.0 in let most = i.1 in (one, omega arith)) h

-- starts between 1 and n
abbrev pub Within : ℕ → DirtyEntry → Type 0
Within n y = (1 ≤ y.start) × (y.start ≤ n)

pub later_within : (k n : ℕ) (t : Dirty) → k ≤ n → All (Within k) t → All (Within n) t
later_within k n t le h = all_more (Within k) (Within n) t (λ x i. let one = i.0 in let most = i.1 in (one, omega arith)) h

-- some entry starts at n or before
abbrev pub Begun : ℕ → Dirty → Type 0
Begun n [] = ⊥
Begun n (y ∷ ys) = (y.start ≤ n) ⊎ Begun n ys

begun_append : (n : ℕ) (ys : Dirty) (z : DirtyEntry) → Begun n ys → Begun n (ys ++ z ∷ [])
begun_append n [] z h = absurd h
begun_append n (y ∷ ys) z (inl h) = inl h
begun_append n (y ∷ ys) z (inr h) = inr (begun_append n ys z h)

begun_last : (n : ℕ) (ys : Dirty) (z : DirtyEntry) → z.start ≤ n → Begun n (ys ++ z ∷ [])
begun_last n [] z h = inl h
begun_last n (y ∷ ys) z h = inr (begun_last n ys z h)

pub begun_dirty : (n p k : ℕ) (t : Dirty) → Begun n t → Begun n (with_dirty p k t)
begun_dirty n p k t h = go (is_some (find_page p t))
  where
    go : (b : Bool) → Begun n (cond b t (t ++ record { page = p; start = k } ∷ []))
    go true = h
    go false = begun_append n t _ h

-- a record's page is entered with its own number, or stands there from before
pub begun_own : (n p : ℕ) (t : Dirty) → All (Within n) t → Begun n (with_dirty p n t)
begun_own n p t h = go (is_some (find_page p t)) refl
  where
    first_one : (u : Dirty) → is_some (find_page p u) ≡ true → All (Within n) u → Begun n u
    first_one [] e h = absurd (true≢false (sym e))
    first_one (y ∷ ys) e h = inl h.0.1

    go : (b : Bool) → is_some (find_page p t) ≡ b → Begun n (cond b t (t ++ record { page = p; start = n } ∷ []))
    go true e = first_one t e h
    go false e = begun_last n t _ (omega arith)

pub all_dirty : (P : DirtyEntry → Type 0) (p k : ℕ) (t : Dirty) → P (record { page = p; start = k }) → All P t → All P (with_dirty p k t)
all_dirty P p k t q h = go (is_some (find_page p t))
  where
    go : (b : Bool) → All P (cond b t (t ++ record { page = p; start = k } ∷ []))
    go true = h
    go false = all_append P t _ h q

-- the smallest start is one of them
least_from_low : (k : ℕ) (t : Dirty) → least_from k t ≤ k
least_from_low k [] = omega arith
least_from_low k (x ∷ xs) = let h = least_from_low (min k x.start) xs in omega arith

least_from_begun : (n k : ℕ) (t : Dirty) → Begun n t → least_from k t ≤ n
least_from_begun n k [] h = absurd h
least_from_begun n k (x ∷ xs) (inl h) = let l = least_from_low (min k x.start) xs in omega arith
least_from_begun n k (x ∷ xs) (inr h) = least_from_begun n (min k x.start) xs h

least_from_one : (k : ℕ) (t : Dirty) → 1 ≤ k → All (λ y. 1 ≤ y.start) t → 1 ≤ least_from k t
least_from_one k [] h a = h
least_from_one k (x ∷ xs) h a = let l = a.0 in least_from_one (min k x.start) xs (omega arith) a.1

pub least_begun : (n : ℕ) (t : Dirty) → Begun n t → All (λ y. 1 ≤ y.start) t → (1 ≤ least_start t) × (least_start t ≤ n)
least_begun n [] h a = absurd h
least_begun n (x ∷ xs) (inl h) a = let l = least_from_low x.start xs in (least_from_one x.start xs a.0 a.1, omega arith)
least_begun n (x ∷ xs) (inr h) a = (least_from_one x.start xs a.0 a.1, least_from_begun n x.start xs h)

-- Slots of a log

module _ {C : Type 0} where
  pub of_each : (P : PageRecord C → Type 0) (x : Option (Slot C)) → ((r : PageRecord C) → P r) → OfRecord P x
  of_each P None f = tt
  of_each P (Some (Record r)) f = f r
  of_each P (Some (Job e j)) f = tt
  of_each P (Some (Checkpoint c)) f = tt

  pub of_more : (P Q : PageRecord C → Type 0) (x : Option (Slot C)) → ((r : PageRecord C) → P r → Q r) → OfRecord P x → OfRecord Q x
  of_more P Q None f h = tt
  of_more P Q (Some (Record r)) f h = f r h
  of_more P Q (Some (Job e j)) f h = tt
  of_more P Q (Some (Checkpoint c)) f h = tt

  pub each_up_to : (P : ℕ → Option (Slot C) → Type 0) (n : ℕ) (L : Log C) → Each P L → Each P (up_to n L)
  each_up_to P n [] h = tt
  each_up_to P n (x ∷ L) h = go (leb (new_number L) n) (each_up_to P n L h.1)
    where
      go : (b : Bool) → Each P (up_to n L) → Each P (cond b (x ∷ L) (up_to n L))
      go true ih = h
      go false ih = ih

  pub each_by_at : (P : ℕ → Option (Slot C) → Type 0) (L : Log C) → ((n : ℕ) → 1 ≤ n → n ≤ length L → P n (at L n)) → Each P L
  each_by_at P [] f = tt
  each_by_at P (x ∷ L) f = (newest, each_by_at P L (λ n one le. subst (P n) (at_more n x L le) (f n one (omega arith))))
    where
      newest : P (new_number L) x
      newest = rw (eq-eqb (suc (length L)) (suc (length L)) refl) at (f (new_number L) (omega arith) (omega arith))

  pub at_inside : (L : Log C) (n : ℕ) (s : Slot C) → at L n ≡ Some s → (1 ≤ n) × (n ≤ length L)
  at_inside L n s e = (
    ⊎_elim
        (λ h. let z : n ≡ 0 = omega arith in let q = subst (λ k. at L k ≡ None) (sym z) (at_zero L) in let w : ◌≡◌ {A = ℕ} 0 1 = cc in absurd (omega arith)) (λ h. h) (cases_lt n 1),
    ⊎_elim (λ h. let q = at_above n L h in let w : ◌≡◌ {A = ℕ} 0 1 = cc in absurd (omega arith)) (λ h. h) (cases_lt (length L) n),
  )

  pub each_and : (P Q : ℕ → Option (Slot C) → Type 0) (L : Log C) → Each P L → Each Q L → Each (λ n x. P n x × Q n x) L
  each_and P Q [] h k = tt
  each_and P Q (x ∷ L) h k = ((h.0, k.0), each_and P Q L h.1 k.1)
