-- The table of open jobs over any devices: what is owed for it, and how each job's pending changes are chained, one slot later.
use Rattle.std.proofs.Common.{◌≡◌, ℕ, suc, ◌+◌, ◌<◌, ◌≤◌, Bool, true, false, cond, eqb, ltb, List, [], ◌∷◌, length, set, is_some, Some, None, Option, unwrap_or, sym, refl, ap, ◌∙◌, subst, arith}
use Rattle.std.specs.Option.{option_map}
use Rattle.std.proofs.lemmas.Bool.{both_ways, eqb-true, eqb-false, eq-eqb, ne_eqb}
use Rattle.std.proofs.lemmas.Bool.Decides.{nat_tests}
use Rattle.format.specs.declared.slot.Slot.{Slot}
use Rattle.format.specs.declared.slot.Slot.TheVariants.{Record, Job, Checkpoint}
use Rattle.format.specs.declared.slot.PageRecord.{PageRecord}
use Rattle.format.specs.declared.slot.Action.TheVariants.{Put}
use Rattle.format.specs.Changes.{Meaning, Lawful}
use Rattle.recovery_log.specs.Log.{Log, new_number, Numbered, pending}
use Rattle.rules.specs.declared.table.JobEntry.{JobEntry}
use Rattle.rules.specs.Reading.{at}
use Rattle.rules.specs.Tables.{Jobs, new_job, entered, find_job, is_job, next_of, with_next, without_job, with_hold, owed}
use Rattle.promises.proofs.AnyDevicesScans.{at_inside}
use Rattle.promises.proofs.AnyDevicesSlots.{Each, Fits, record_inside}
use Rattle.promises.proofs.AnyDevicesStages.{Stack, Stacked, Table}
use Rattle.promises.proofs.Decoded.{at_more}
use Rattle.promises.proofs.JobTables.{at_next, Above, above_in, Ascending, without_above, find_with_next, find_without_job, find_entered, ascending_with_next, ascending_without_job, ascending_entered}
use Rattle.promises.proofs.Membership.{In, here, there}

found_is : (j : ℕ) (t : Jobs) → is_job j t ≡ true → (e : JobEntry) × (find_job j t ≡ Some e)
found_is j t h = go (find_job j t) refl h
  where
    go : (o : Option JobEntry) → find_job j t ≡ o → is_some o ≡ true → (e : JobEntry) × (find_job j t ≡ Some e)
    go None q h = absurd (both_ways false refl h)
    go (Some e) q h = (e, q)

some_mapped : {A B : Type 0} (f : A → B) (o : Option A) (b : B) → option_map f o ≡ Some b → (a : A) × (o ≡ Some a) × (f a ≡ b)
some_mapped f None b e = let z : ◌≡◌ {A = ℕ} 0 1 = cc in absurd (omega arith)
some_mapped f (Some a) b e = (a, refl, cc)

-- What is held counts for nothing

abbrev with_it : ℕ → JobEntry → JobEntry
with_it p x = record { job = x.job; next = x.next; holds = set x.holds p true }

find_with_hold : (j k p : ℕ) (t : Jobs) → find_job j (with_hold k p t) ≡ cond (eqb k j) (option_map (with_it p) (find_job j t)) (find_job j t)
find_with_hold j k p [] = grind (arith, nat_tests)
find_with_hold j k p (x ∷ xs) = let ih = find_with_hold j k p xs in grind (arith, nat_tests)

above_hold : (n k p : ℕ) (t : Jobs) → Above n t → Above n (with_hold k p t)
above_hold n k p [] a = tt
above_hold n k p (x ∷ xs) a = (go (eqb x.job k), above_hold n k p xs a.1)
  where
    go : (b : Bool) → n < (cond b (with_it p x) x).job
    go true = a.0
    go false = a.0

ascending_hold : (k p : ℕ) (t : Jobs) → Ascending t → Ascending (with_hold k p t)
ascending_hold k p [] a = tt
ascending_hold k p (x ∷ xs) a = go (eqb x.job k) (ascending_hold k p xs a.1)
  where
    go : (b : Bool) → Ascending (with_hold k p xs) → Ascending (cond b (with_it p x) x ∷ with_hold k p xs)
    go true ih = (above_hold x.job k p xs a.0, ih)
    go false ih = (above_hold x.job k p xs a.0, ih)

module _ {C : Type 0} where
  -- What is owed

  abbrev pub part : Log C → ℕ → ℕ
  part L j = length (pending L j)

  pub owed_same : (L M : Log C) (t : Jobs) → ((x : JobEntry) → In x t → part M x.job ≡ part L x.job) → owed M t ≡ owed L t
  owed_same L M [] e = refl
  owed_same L M (x ∷ xs) e = let k = e x (here refl) in let ih = owed_same L M xs (λ y i. e y (there i)) in omega arith

  pub owed_hold : (L : Log C) (k p : ℕ) (t : Jobs) → owed L (with_hold k p t) ≡ owed L t
  owed_hold L k p [] = refl
  owed_hold L k p (x ∷ xs) = go (eqb x.job k) (owed_hold L k p xs)
    where
      go : (b : Bool) → owed L (with_hold k p xs) ≡ owed L xs → owed L (cond b (with_it p x) x ∷ with_hold k p xs) ≡ owed L (x ∷ xs)
      go true ih = omega arith
      go false ih = omega arith

  owed_next : (L : Log C) (k n : ℕ) (t : Jobs) → owed L (with_next k n t) ≡ owed L t
  owed_next L k n [] = refl
  owed_next L k n (x ∷ xs) = go (eqb x.job k) (owed_next L k n xs)
    where
      go : (b : Bool) → owed L (with_next k n xs) ≡ owed L xs → owed L (cond b (at_next n x) x ∷ with_next k n xs) ≡ owed L (x ∷ xs)
      go true ih = omega arith
      go false ih = omega arith

  pub owed_entered : (L : Log C) (e : JobEntry) (t : Jobs) → owed L (entered e t) ≡ suc (part L e.job) + owed L t
  owed_entered L e [] = refl
  owed_entered L e (x ∷ xs) = go (ltb e.job x.job) (owed_entered L e xs)
    where
      go : (b : Bool) → owed L (entered e xs) ≡ suc (part L e.job) + owed L xs → owed L (cond b (e ∷ x ∷ xs) (x ∷ entered e xs)) ≡ suc (part L e.job) + owed L (x ∷ xs)
      go true ih = omega arith
      go false ih = omega arith

  pub owed_without : (L : Log C) (k : ℕ) (t : Jobs) → Ascending t → is_job k t ≡ true → owed L (without_job k t) + suc (part L k) ≡ owed L t
  owed_without L k [] a i = absurd (both_ways false refl i)
  owed_without L k (x ∷ xs) a i = go (eqb x.job k) refl i (owed_without L k xs a.1)
    where
      go : (b : Bool) → eqb x.job k ≡ b → is_some (cond b (Some x) (find_job k xs)) ≡ true → (is_job k xs ≡ true → owed L (without_job k xs) + suc (part L k) ≡ owed L xs)
          → owed L (cond b (without_job k xs) (x ∷ without_job k xs)) + suc (part L k) ≡ owed L (x ∷ xs)
      go true q i ih =
          let same = eqb-true x.job k q in
          rw (without_above k xs (subst (λ j. Above j xs) same a.0), same) (omega arith)
      go false q i ih = let k = ih i in omega arith

  -- only the part of one job changes
  owed_one : (L M : Log C) (k : ℕ) (t : Jobs) → Ascending t → is_job k t ≡ true → ((j : ℕ) → eqb k j ≡ false → part M j ≡ part L j)
      → owed M t + part L k ≡ owed L t + part M k
  owed_one L M k [] a i e = absurd (both_ways false refl i)
  owed_one L M k (x ∷ xs) a i e = go (eqb x.job k) refl i (λ i. owed_one L M k xs a.1 i e)
    where
      go : (b : Bool) → eqb x.job k ≡ b → is_some (cond b (Some x) (find_job k xs)) ≡ true → (is_job k xs ≡ true → owed M xs + part L k ≡ owed L xs + part M k)
          → owed M (x ∷ xs) + part L k ≡ owed L (x ∷ xs) + part M k
      go true q i ih =
          let same = eqb-true x.job k q in
          let others : owed M xs ≡ owed L xs = owed_same L M xs (λ y i. let lt = above_in x.job xs y a.0 i in e y.job (ne_eqb k y.job (λ p. omega arith))) in
          rw (same, others) (omega arith)
      go false q i ih = let rest = ih i in let here = e x.job (ne_eqb k x.job (λ p. eqb-false x.job k q (sym p))) in omega arith

  -- Stacks

  pub stack_low : (L : Log C) (j n : ℕ) (xs : List (Numbered C)) → Stack L j n xs → n ≤ length L
  stack_low L j n [] h = omega arith
  stack_low L j n (x ∷ xs) h = (at_inside L n (Record x.record') h.0).1

  pub stack_more : (y : Option (Slot C)) (L : Log C) (j n : ℕ) (xs : List (Numbered C)) → Stack L j n xs → Stack (y ∷ L) j n xs
  stack_more y L j n [] h = h
  stack_more y L j n (x ∷ xs) h =
      (at_more n y L (at_inside L n (Record x.record') h.0).1 ∙ h.0, h.1, h.2, stack_more y L j x.record'.link xs h.3)

  -- a number above the log is the job of no slot that fits
  pub fresh : (m : Meaning C) (law : Lawful m) (size : ℕ) (L : Log C) → Each (Fits m law size) L → (j : ℕ) → length L < j → pending L j ≡ []
  fresh m law size [] h j lt = refl
  fresh m law size (None ∷ L) h j lt = fresh m law size L h.1 j (omega arith)
  fresh m law size (Some (Record r) ∷ L) h j lt =
      let low = (record_inside m size (new_number L) r h.0).job_low in
      rw (ne_eqb r.job j (λ e. omega arith)) (fresh m law size L h.1 j (omega arith))
  fresh m law size (Some (Job e k) ∷ L) h j lt = fresh m law size L h.1 j (omega arith)
  fresh m law size (Some (Checkpoint c) ∷ L) h j lt = fresh m law size L h.1 j (omega arith)

  -- Tables

  -- a slot that leaves the job's pending changes
  pub stacked_more : (y : Option (Slot C)) (L : Log C) (j : ℕ) (e : JobEntry) → pending (y ∷ L) j ≡ pending L j → Stacked L j e → Stacked (y ∷ L) j e
  stacked_more y L j e same h =
      let one = h.named.0 in
      let most = h.named.1 in
      record { named = (one, omega arith); own = h.own; stack = rw same (stack_more y L j e.next (pending L j) h.stack) }

  pub table_more : (y : Option (Slot C)) (L : Log C) (t : Jobs) → ((j : ℕ) → pending (y ∷ L) j ≡ pending L j) → Table L t → Table (y ∷ L) t
  table_more y L t same h = record { ascending = h.ascending; each = λ j e q. stacked_more y L j e (same j) (h.each j e q) }

  pub owed_more : (y : Option (Slot C)) (L : Log C) (t : Jobs) → ((j : ℕ) → pending (y ∷ L) j ≡ pending L j) → owed (y ∷ L) t ≡ owed L t
  owed_more y L t same = owed_same L (y ∷ L) t (λ x i. ap length (same x.job))

  pub table_hold : (L : Log C) (t : Jobs) (k p : ℕ) → Table L t → Table L (with_hold k p t)
  table_hold L t k p h = record { ascending = ascending_hold k p t h.ascending; each = λ j e q. go j e (eqb k j) (sym (find_with_hold j k p t) ∙ q) }
    where
      go : (j : ℕ) (e : JobEntry) (b : Bool) → cond b (option_map (with_it p) (find_job j t)) (find_job j t) ≡ Some e → Stacked L j e
      go j e true q =
          let x = some_mapped (with_it p) (find_job j t) e q in
          let s = h.each j x.0 x.1 in
          subst (Stacked L j) x.2 (record { named = s.named; own = s.own; stack = s.stack })
      go j e false q = h.each j e q

  pub table_without : (L : Log C) (t : Jobs) (k : ℕ) → Table L t → Table L (without_job k t)
  table_without L t k h = record { ascending = ascending_without_job k t h.ascending; each = λ j e q. go j e (eqb k j) (sym (find_without_job j k t) ∙ q) }
    where
      go : (j : ℕ) (e : JobEntry) (b : Bool) → cond b None (find_job j t) ≡ Some e → Stacked L j e
      go j e true q = let z : ◌≡◌ {A = ℕ} 0 1 = cc in absurd (omega arith)
      go j e false q = h.each j e q

  -- an open job, as a call finds it
  pub record OpenJob (L : Log C) (t : Jobs) (j : ℕ) : Type 0 where
    pub one : 1 ≤ j
    pub low : j ≤ length L
    pub stack : Stack L j (next_of j t) (pending L j)
    pub next_low : next_of j t ≤ length L

  pub open_job : (L : Log C) (t : Jobs) (j : ℕ) → Table L t → is_job j t ≡ true → OpenJob L t j
  open_job L t j h i =
      let found = found_is j t i in
      let e = found.0 in
      let s = h.each j e found.1 in
      let own = s.own in
      let one = s.named.0 in
      let low = s.named.1 in
      let next : next_of j t ≡ e.next = ap (λ (o : Option JobEntry). unwrap_or (option_map (λ (x : JobEntry). x.next) o) 0) found.1 in
      record {
        one = omega arith;
        low = omega arith;
        stack = subst (λ n. Stack L j n (pending L j)) (sym next) s.stack;
        next_low = rw next (stack_low L j e.next (pending L j) s.stack);
      }

  -- a new job, above all others
  above_none : (L : Log C) (t : Jobs) (n : ℕ) → length L < n → Table L t → find_job n t ≡ None
  above_none L t n lt h = go (find_job n t) refl
    where
      go : (o : Option JobEntry) → find_job n t ≡ o → o ≡ None
      go None q = refl
      go (Some e) q = let s = h.each n e q in let own = s.own in let most = s.named.1 in absurd (omega arith)

  pub table_entered : (L M : Log C) (t : Jobs) (n : ℕ) → length M < n → 1 ≤ n → n ≤ length L → pending L n ≡ [] → Table M t → Table L t → Table L (entered (new_job n 0) t)
  table_entered L M t n lt one le none g h = record {
    ascending = ascending_entered (new_job n 0) t (above_none M t n lt g) h.ascending;
    each = λ j e q. go j e (eqb n j) refl (sym (find_entered j (new_job n 0) t (above_none M t n lt g)) ∙ q);
  }
    where
      go : (j : ℕ) (e : JobEntry) (b : Bool) → eqb n j ≡ b → cond b (Some (new_job n 0)) (find_job j t) ≡ Some e → Stacked L j e
      go j e true p q =
          let same : new_job n 0 ≡ e = cc in
          let own = eqb-true n j p in
          subst (Stacked L j) same (record { named = (one, le); own = own; stack = subst (λ (xs : List (Numbered C)). Stack L j 0 xs) (sym (ap (pending L) (sym own) ∙ none)) refl })
      go j e false p q = h.each j e q

  -- a record of the server: its link is the job's next
  pub table_recorded : (L : Log C) (t : Jobs) (r : PageRecord C) → r.action ≡ Put → r.link ≡ next_of r.job t → Table L t
      → Table (Some (Record r) ∷ L) (with_next r.job (new_number L) t)
  table_recorded L t r puts link h = record {
    ascending = ascending_with_next r.job (new_number L) t h.ascending;
    each = λ j e q. go j e (eqb r.job j) refl (sym (find_with_next j r.job (new_number L) t) ∙ q);
  }
    where
      x : Numbered C
      x = record { number = new_number L; record' = r }

      go : (j : ℕ) (e : JobEntry) (b : Bool) → eqb r.job j ≡ b → cond b (option_map (at_next (new_number L)) (find_job j t)) (find_job j t) ≡ Some e
          → Stacked (Some (Record r) ∷ L) j e
      go j e true p q =
          let y = some_mapped (at_next (new_number L)) (find_job j t) e q in
          let s = h.each j y.0 y.1 in
          let own = eqb-true r.job j p in
          let one = s.named.0 in
          let most = s.named.1 in
          let was : next_of r.job t ≡ y.0.next = ap (λ k. next_of k t) own ∙ ap (λ (o : Option JobEntry). unwrap_or (option_map (λ (z : JobEntry). z.next) o) 0) y.1 in
          let below : Stack (Some (Record r) ∷ L) j r.link (pending L j)
          = subst (λ n. Stack (Some (Record r) ∷ L) j n (pending L j)) (sym (link ∙ was)) (stack_more (Some (Record r)) L j y.0.next (pending L j) s.stack) in
          let top : at (Some (Record r) ∷ L) (new_number L) ≡ Some (Record r) = rw (eq-eqb (suc (length L)) (suc (length L)) refl) in
          let pushed : pending (Some (Record r) ∷ L) j ≡ x ∷ pending L j = rw (p, puts) refl in
          subst (Stacked (Some (Record r) ∷ L) j) y.2 (record {
            named = (one, omega arith);
            own = s.own;
            stack = subst (λ (xs : List (Numbered C)). Stack (Some (Record r) ∷ L) j (new_number L) xs) (sym pushed) (top, puts, own, below);
          })
      go j e false p q = stacked_more (Some (Record r)) L j e (rw p refl) (h.each j e q)

  pub owed_recorded : (L : Log C) (t : Jobs) (r : PageRecord C) (n : ℕ) → r.action ≡ Put → is_job r.job t ≡ true → Table L t
      → owed (Some (Record r) ∷ L) (with_next r.job n t) ≡ suc (owed L t)
  owed_recorded L t r n puts i h =
      let M = Some (Record r) ∷ L in
      let k = owed_one L M r.job t h.ascending i (λ j e. rw e refl) in
      let more : part M r.job ≡ suc (part L r.job) = rw (eq-eqb r.job r.job refl, puts) refl in
      owed_next M r.job n t ∙ omega arith
