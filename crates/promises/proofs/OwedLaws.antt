-- What a legal log must have room for, one slot later. Assumes nothing.
use Rattle.std.proofs.Common.{◌≡◌, ℕ, suc, ◌+◌, ◌≤◌, Bool, true, false, cond, eqb, ltb, [], ◌∷◌, length, is_some, Some, sym, refl, ap, ◌∙◌, subst, arith}
use Rattle.std.proofs.lemmas.Bool.{both_ways, eqb-true, eqb-false, eq-eqb, ne_eqb}
use Rattle.format.specs.declared.slot.Slot.TheVariants.{Record, Job, Checkpoint}
use Rattle.format.specs.declared.slot.PageRecord.{PageRecord}
use Rattle.format.specs.declared.slot.Action.TheVariants.{Put, TakeBack}
use Rattle.format.specs.declared.slot.JobEvent.{JobEvent}
use Rattle.format.specs.declared.slot.JobEvent.TheVariants.{Open, Commit, End}
use Rattle.format.specs.declared.slot.CheckpointPart.{CheckpointPart}
use Rattle.recovery_log.specs.Log.{Log, new_number, opens, is_open, next_by, rest, pending}
use Rattle.rules.specs.declared.table.JobEntry.{JobEntry}
use Rattle.rules.specs.Tables.{Jobs, new_job, entered, find_job, is_job, with_next, without_job, owed}
use Rattle.promises.proofs.Legal.{Legal, Room, open_jobs, owed_by, Undoes}
use Rattle.promises.proofs.Membership.{In, here, there}
use Rattle.promises.proofs.JobLaws.{fresh_pending, table_has, table_ascending}
use Rattle.promises.proofs.JobTables.{at_next, Above, above_in, Ascending, without_above}

module _ {C : Type 0} where
  -- What is owed for a table, whatever stands in it

  -- the job's part
  abbrev part : Log C → ℕ → ℕ
  part L j = length (pending L j)

  owed_same : (L M : Log C) (t : Jobs) → ((x : JobEntry) → In x t → part M x.job ≡ part L x.job) → owed M t ≡ owed L t
  owed_same L M [] e = refl
  owed_same L M (x ∷ xs) e = let k = e x (here refl) in let ih = owed_same L M xs (λ y i. e y (there i)) in omega arith

  owed_with_next : (L : Log C) (k n : ℕ) (t : Jobs) → owed L (with_next k n t) ≡ owed L t
  owed_with_next L k n [] = refl
  owed_with_next L k n (x ∷ xs) = go (eqb x.job k) (owed_with_next L k n xs)
    where
      go : (b : Bool) → owed L (with_next k n xs) ≡ owed L xs → owed L (cond b (at_next n x) x ∷ with_next k n xs) ≡ owed L (x ∷ xs)
      go true ih = omega arith
      go false ih = omega arith

  owed_entered : (L : Log C) (e : JobEntry) (t : Jobs) → owed L (entered e t) ≡ suc (part L e.job) + owed L t
  owed_entered L e [] = refl
  owed_entered L e (x ∷ xs) = go (ltb e.job x.job) (owed_entered L e xs)
    where
      go : (b : Bool) → owed L (entered e xs) ≡ suc (part L e.job) + owed L xs → owed L (cond b (e ∷ x ∷ xs) (x ∷ entered e xs)) ≡ suc (part L e.job) + owed L (x ∷ xs)
      go true ih = omega arith
      go false ih = omega arith

  owed_without : (L : Log C) (k : ℕ) (t : Jobs) → Ascending t → is_job k t ≡ true → owed L (without_job k t) + suc (part L k) ≡ owed L t
  owed_without L k [] a i = absurd (both_ways false refl i)
  owed_without L k (x ∷ xs) a i = go (eqb x.job k) refl i (owed_without L k xs a.1)
    where
      go : (b : Bool) → eqb x.job k ≡ b → is_some (cond b (Some x) (find_job k xs)) ≡ true → (is_job k xs ≡ true → owed L (without_job k xs) + suc (part L k) ≡ owed L xs)
          → owed L (cond b (without_job k xs) (x ∷ without_job k xs)) + suc (part L k) ≡ owed L (x ∷ xs)
      go true q i ih =
          let same = eqb-true x.job k q in
          rw (without_above k xs (subst (λ j. Above j xs) same a.0), same) (omega arith)
      go false q i ih = let k = ih i in omega arith

  -- only the part of one job changes
  owed_one : (L M : Log C) (k : ℕ) (t : Jobs) → Ascending t → is_job k t ≡ true → ((j : ℕ) → eqb k j ≡ false → part M j ≡ part L j)
      → owed M t + part L k ≡ owed L t + part M k
  owed_one L M k [] a i e = absurd (both_ways false refl i)
  owed_one L M k (x ∷ xs) a i e = go (eqb x.job k) refl i (λ i. owed_one L M k xs a.1 i e)
    where
      go : (b : Bool) → eqb x.job k ≡ b → is_some (cond b (Some x) (find_job k xs)) ≡ true → (is_job k xs ≡ true → owed M xs + part L k ≡ owed L xs + part M k)
          → owed M (x ∷ xs) + part L k ≡ owed L (x ∷ xs) + part M k
      go true q i ih =
          let same = eqb-true x.job k q in
          let others : owed M xs ≡ owed L xs = owed_same L M xs (λ y i. let lt = above_in x.job xs y a.0 i in e y.job (ne_eqb k y.job (λ p. omega arith))) in
          rw (same, others) (omega arith)
      go false q i ih = let rest = ih i in let here = e x.job (ne_eqb k x.job (λ p. eqb-false x.job k q (sym p))) in omega arith

  -- a part of a checkpoint changes nothing
  pub owed_mark : (L : Log C) (c : CheckpointPart) → owed_by (Some (Checkpoint c) ∷ L) ≡ owed_by L
  owed_mark L c = owed_same L (Some (Checkpoint c) ∷ L) (open_jobs L) (λ x i. refl)

module _ {C : Type 0} (size capacity : ℕ) where
  -- What is owed, one slot later

  -- a record changes the part of its job alone
  owed_record : (L : Log C) (r : PageRecord C) → Legal size capacity L → is_open L r.job ≡ true
      → owed_by (Some (Record r) ∷ L) + part L r.job ≡ owed_by L + part (Some (Record r) ∷ L) r.job
  owed_record L r h o =
      let n = next_by r.action (new_number L) r.link in
      rw (owed_with_next (Some (Record r) ∷ L) r.job n (open_jobs L))
      (owed_one L (Some (Record r) ∷ L) r.job (open_jobs L) (table_ascending size capacity L h) (table_has size capacity L r.job h ∙ o) (λ j e. rw e refl))

  pub owed_put : (L : Log C) (r : PageRecord C) → Legal size capacity L → is_open L r.job ≡ true → r.action ≡ Put
      → owed_by (Some (Record r) ∷ L) ≡ suc (owed_by L)
  owed_put L r h o a =
      let k = owed_record L r h o in
      let more : part (Some (Record r) ∷ L) r.job ≡ suc (part L r.job) = rw (eq-eqb r.job r.job refl, a) refl in
      omega arith

  pub owed_back : (L : Log C) (r : PageRecord C) → Legal size capacity L → is_open L r.job ≡ true → r.action ≡ TakeBack → Undoes L r
      → suc (owed_by (Some (Record r) ∷ L)) ≡ owed_by L
  owed_back L r h o a u =
      let k = owed_record L r h o in
      let was : part L r.job ≡ suc (length u.below) = ap length u.stack in
      let less : part (Some (Record r) ∷ L) r.job ≡ length u.below = rw (eq-eqb r.job r.job refl, a) (ap (λ xs. length (rest xs)) u.stack) in
      omega arith

  pub owed_open : (L : Log C) → Legal size capacity L → owed_by (Some (Job Open (new_number L)) ∷ L) ≡ suc (owed_by L)
  owed_open L h =
      let M = Some (Job Open (new_number L)) ∷ L in
      let k = owed_entered M (new_job (new_number L) 0) (open_jobs L) in
      let same = owed_same L M (open_jobs L) (λ x i. refl) in
      let none : part M (new_number L) ≡ 0 = ap length (fresh_pending size capacity L (new_number L) h (omega arith)) in
      omega arith

  pub owed_closed : (L : Log C) (j : ℕ) (e : JobEvent) → Legal size capacity L → is_open L j ≡ true → opens e ≡ false
      → owed_by (Some (Job e j) ∷ L) + suc (length (pending L j)) ≡ owed_by L
  owed_closed L j e h o c = go e c
    where
      rest_owed : (e : JobEvent) → owed (Some (Job e j) ∷ L) (without_job j (open_jobs L)) + suc (length (pending L j)) ≡ owed_by L
      rest_owed e =
          let same = owed_same L (Some (Job e j) ∷ L) (without_job j (open_jobs L)) (λ x i. refl) in
          let less = owed_without L j (open_jobs L) (table_ascending size capacity L h) (table_has size capacity L j h ∙ o) in
          omega arith

      go : (e : JobEvent) → opens e ≡ false → owed_by (Some (Job e j) ∷ L) + suc (length (pending L j)) ≡ owed_by L
      go Open c = absurd (both_ways true c refl)
      go Commit c = rest_owed Commit
      go End c = rest_owed End

  -- Room

  pub room_now : (L : Log C) → Legal size capacity L → Room capacity L
  room_now [] h = omega arith
  room_now (s ∷ L) h = h.2

  pub room_put : (L : Log C) (r : PageRecord C) → Legal size capacity L → is_open L r.job ≡ true → r.action ≡ Put
      → length L + owed_by L + 2 ≤ capacity → Room capacity (Some (Record r) ∷ L)
  room_put L r h o a room = let k = owed_put L r h o a in omega arith

  pub room_back : (L : Log C) (r : PageRecord C) → Legal size capacity L → is_open L r.job ≡ true → r.action ≡ TakeBack → Undoes L r
      → Room capacity L → Room capacity (Some (Record r) ∷ L)
  room_back L r h o a u room = let k = owed_back L r h o a u in omega arith

  pub room_open : (L : Log C) → Legal size capacity L → length L + owed_by L + 2 ≤ capacity → Room capacity (Some (Job Open (new_number L)) ∷ L)
  room_open L h room = let k = owed_open L h in omega arith

  pub room_closed : (L : Log C) (j : ℕ) (e : JobEvent) → Legal size capacity L → is_open L j ≡ true → opens e ≡ false
      → Room capacity L → Room capacity (Some (Job e j) ∷ L)
  room_closed L j e h o c room = let k = owed_closed L j e h o c in omega arith

  pub room_mark : (L : Log C) (c : CheckpointPart) → length L + owed_by L + 1 ≤ capacity → Room capacity (Some (Checkpoint c) ∷ L)
  room_mark L c room = let k = owed_mark L c in omega arith
