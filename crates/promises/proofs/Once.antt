-- In a legal log no two compensations stand for one change, and exactly one stands for each change of a job that has none pending. Assumes nothing.
use Rattle.std.proofs.Common.{◌≡◌, ℕ, suc, pred, ◌<◌, ◌≤◌, Bool, true, false, cond, eqb, ◌⊎◌, List, [], ◌∷◌, length, Some, None, Option, sym, refl, ap, ◌∙◌, subst, inl, inr, ⊎_elim, arith}
use Rattle.std.proofs.lemmas.Bool.{eqb-true, eqb-false, ne_eqb, eq-eqb, lt-leb, le-leb, cond-true, cond-false, cases_lt}
use Rattle.format.specs.declared.slot.Slot.{Slot}
use Rattle.format.specs.declared.slot.Slot.TheVariants.{Record, Job, Checkpoint}
use Rattle.format.specs.declared.slot.PageRecord.{PageRecord}
use Rattle.format.specs.declared.slot.Action.{Action}
use Rattle.format.specs.declared.slot.Action.TheVariants.{Put, TakeBack}
use Rattle.recovery_log.specs.Log.{Log, new_number, next, next_by, Numbered, rest, pending, pending_by}
use Rattle.rules.specs.Reading.{at, up_to}
use Rattle.promises.specs.Compensations.{Acts, Change, Compensation, stands_for, TakesBack, AllTakeBack, NeverTwice, ExactlyOnce, AllOnce}
use Rattle.promises.proofs.Cuts.{up_to_all}
use Rattle.promises.proofs.Decoded.{up_to_more, at_more, at_above}
use Rattle.promises.proofs.JobLaws.{top_number, next_top, pending_at}
use Rattle.promises.proofs.Legal.{Legal, NextSlot, Recorded, Follows, Undoes}
use Rattle.promises.proofs.Membership.{In, here}

module _ {C : Type 0} where
  -- slot n is a change of the job
  abbrev pub ChangeOf : Log C → ℕ → ℕ → Type 0
  ChangeOf L n j = (c : PageRecord C) × Change L n c × (c.job ≡ j)

  -- Slots by number, one slot later

  empty : {a : Action} (n : ℕ) (r : PageRecord C) → Acts a [] n r → ⊥
  empty n r h = let z : ◌≡◌ {A = ℕ} 0 1 = cc h.slot in omega arith

  newest : {a : Action} (L : Log C) (r : PageRecord C) → r.action ≡ a → Acts a (Some (Record r) ∷ L) (new_number L) r
  newest L r e = record { slot = rw (eq-eqb (new_number L) (new_number L) refl) refl; action = e }

  -- a slot that is something has a number of the log
  within : (L : Log C) (n : ℕ) (x : Slot C) → at L n ≡ Some x → n ≤ length L
  within [] n x e = let z : ◌≡◌ {A = ℕ} 0 1 = cc in absurd (omega arith)
  within (s ∷ L) n x e = go (eqb n (new_number L)) refl (within L n x)
    where
      go : (t : Bool) → eqb n (new_number L) ≡ t → (at L n ≡ Some x → n ≤ length L) → n ≤ new_number L
      go true q old = omega (arith, eqb-true _ _ q)
      go false q old = omega (arith, old (rw q at e))

  -- what a compensation stands for is told by the log before it: an older one by the older log, the newest by all of it
  all_of : (L : Log C) → up_to (length L) L ≡ L
  all_of [] = refl
  all_of (s ∷ L) = rw (le-leb (new_number L) (new_number L) (omega arith)) refl

  before : (s : Option (Slot C)) (L : Log C) (n : ℕ) (r : PageRecord C) → n ≤ new_number L → stands_for (s ∷ L) n r ≡ stands_for L n r
  before s L n r h = rw (lt-leb (new_number L) (pred n) (omega arith)) refl

  before_new : (s : Option (Slot C)) (L : Log C) (n : ℕ) (r : PageRecord C) → n ≡ new_number L → stands_for (s ∷ L) n r ≡ next L r.job
  before_new s L n r e = before s L n r (omega arith) ∙ (ap (λ k. stands_for L k r) e ∙ ap (λ M. next M r.job) (all_of L))

  -- a record stands where it stood when a slot is added
  later : {a : Action} (s : Option (Slot C)) (L : Log C) (n : ℕ) (r : PageRecord C) → Acts a L n r → Acts a (s ∷ L) n r
  later s L n r h = record { slot = rw (ne_eqb n (new_number L) (λ e. omega (arith, within L n (Record r) h.slot))) h.slot; action = h.action }

  -- a record of a longer log is the new slot, or it stood before and stands for what it stood for
  data Seen (a : Action) (s : Option (Slot C)) (L : Log C) (n : ℕ) (r : PageRecord C) : Type 0 where
    added : n ≡ new_number L → s ≡ Some (Record r) → r.action ≡ a → stands_for (s ∷ L) n r ≡ next L r.job → Seen a s L n r
    stood : Acts a L n r → stands_for (s ∷ L) n r ≡ stands_for L n r → Seen a s L n r

  seen : {a : Action} (s : Option (Slot C)) (L : Log C) (n : ℕ) (r : PageRecord C) → Acts a (s ∷ L) n r → Seen a s L n r
  seen {a} s L n r h = go (eqb n (new_number L)) refl
    where
      go : (t : Bool) → eqb n (new_number L) ≡ t → Seen a s L n r
      go true q = let e = eqb-true n (new_number L) q in added e (rw q at h.slot) h.action (before_new s L n r e)
      go false q =
          let o : at L n ≡ Some (Record r) = rw q at h.slot in
          stood (record { slot = o; action = h.action }) (before s L n r (omega (arith, within L n (Record r) o)))

  -- Stacks

  -- no compensation stands for n
  abbrev Free : Log C → ℕ → Type 0
  Free L n = (k : ℕ) (r : PageRecord C) → Compensation L k r → stands_for L k r ≡ n → ⊥

  -- the slot, were it added, would be no compensation for n
  abbrev Spares : Option (Slot C) → Log C → ℕ → Type 0
  Spares s L n = (r : PageRecord C) → s ≡ Some (Record r) → r.action ≡ TakeBack → next L r.job ≡ n → ⊥

  free_later : (s : Option (Slot C)) (L : Log C) (n : ℕ) → Spares s L n → Free L n → Free (s ∷ L) n
  free_later s L n spares free k r h e = go (seen s L k r h)
    where
      go : Seen TakeBack s L k r → ⊥
      go (added _ q a b) = spares r q a (sym b ∙ e)
      go (stood o b) = free k r o (sym b ∙ e)

  -- a pending change of the job: it stands in the log, and no compensation stands for it
  record Held (L : Log C) (j : ℕ) (x : Numbered C) : Type 0 where
    change : Change L x.number x.record'
    job : x.record'.job ≡ j
    free : Free L x.number

  -- changes of the job, the newest first: each number is below the one before it, and is the link of the one before it
  abbrev Stack : Log C → ℕ → ℕ → ℕ → List (Numbered C) → Type 0
  Stack L j bound n [] = Unit {0}
  Stack L j bound n (x ∷ xs) = Held L j x × (x.number < bound) × (n ≡ x.number) × Stack L j x.number x.record'.link xs

  carried : (s : Option (Slot C)) (L : Log C) (j b c m n : ℕ) (xs : List (Numbered C)) → b ≤ c → n ≡ m
      → ((x : Numbered C) → Held L j x → x.number < b → Spares s L x.number) → Stack L j b m xs → Stack (s ∷ L) j c n xs
  carried s L j b c m n [] le e spares h = tt
  carried s L j b c m n (x ∷ xs) le e spares h = (
    record { change = later s L _ _ h.0.change; job = h.0.job; free = free_later s L _ (spares x h.0 h.1) h.0.free },
    omega arith,
    e ∙ h.2,
    carried s L j x.number x.number _ _ xs (omega arith) refl (λ y held lt. spares y held (omega arith)) h.3,
  )

  -- two pending changes of one number are of one job
  same_job : (L : Log C) (i j : ℕ) (x y : Numbered C) → Held L i x → Held L j y → x.number ≡ y.number → i ≡ j
  same_job L i j x y h k e =
      let p = h.change.slot in
      let q = k.change.slot in
      let a : at L x.number ≡ at L y.number = ap (at L) e in
      let b : x.record' ≡ y.record' = cc in
      sym h.job ∙ (ap (λ r. r.job) b ∙ k.job)

module _ {C : Type 0} (size capacity : ℕ) where
  -- what is pending is a stack, and each compensation stands for a change of its job
  record Sound (L : Log C) : Type 0 where
    stacks : (j : ℕ) → Stack L j (new_number L) (next L j) (pending L j)
    changes : (k : ℕ) (r : PageRecord C) → Compensation L k r → ChangeOf L (stands_for L k r) r.job

  -- what a new compensation stands for is the top of its job's stack
  record Top (L : Log C) (r : PageRecord C) : Type 0 where
    undoes : Undoes L r
    held : Held L r.job undoes.top
    next_top : next L r.job ≡ undoes.top.number
    under : Stack L r.job undoes.top.number undoes.top.record'.link undoes.below

  top_of : (s : Option (Slot C)) (L : Log C) (r : PageRecord C) → Sound L → NextSlot size s L → s ≡ Some (Record r) → r.action ≡ TakeBack → Top L r
  top_of s L r old h e a =
      let g : Recorded size L r = subst (λ x. NextSlot size x L) e h in
      let u : Undoes L r = subst (λ x. Follows x L r) a g.follows in
      let st : Stack L r.job (new_number L) (next L r.job) (u.top ∷ u.below) = rw u.stack at (old.stacks r.job) in
      record { undoes = u; held = st.0; next_top = st.2; under = st.3 }

  changes_later : (s : Option (Slot C)) (L : Log C) → Sound L → NextSlot size s L → (k : ℕ) (r : PageRecord C) → Compensation (s ∷ L) k r → ChangeOf (s ∷ L) (stands_for (s ∷ L) k r) r.job
  changes_later s L old h k r g = go (seen s L k r g)
    where
      go : Seen TakeBack s L k r → ChangeOf (s ∷ L) (stands_for (s ∷ L) k r) r.job
      go (added _ q a b) =
          let t = top_of s L r old h q a in
          subst (λ n. ChangeOf (s ∷ L) n r.job) (sym (b ∙ t.next_top)) (_, later s L _ _ t.held.change, t.held.job)
      go (stood o b) =
          let c = old.changes k r o in
          subst (λ n. ChangeOf (s ∷ L) n r.job) (sym b) (c.0, later s L _ _ c.1, c.2)

  -- a slot that is no record
  quiet : (s : Option (Slot C)) (L : Log C) → Sound L → ((r : PageRecord C) → s ≡ Some (Record r) → ⊥) → (j : ℕ) → Stack (s ∷ L) j (suc (new_number L)) (next L j) (pending L j)
  quiet s L old none j = carried s L j _ _ _ _ _ (omega arith) refl (λ x h lt r e a q. none r e) (old.stacks j)

  -- a record, as the other jobs and its own have it
  module _ (L : Log C) (r : PageRecord C) (old : Sound L) (h : Recorded size L r) where
    others : (j : ℕ) → eqb r.job j ≡ false → Stack (Some (Record r) ∷ L) j (suc (new_number L)) (next L j) (pending L j)
    others j e = carried _ L j _ _ _ _ _ (omega arith) refl spares (old.stacks j)
      where
        spares : (x : Numbered C) → Held L j x → x.number < new_number L → Spares (Some (Record r)) L x.number
        spares x k lt w p a q =
            let t = top_of _ L w old h p a in
            let i : r.job ≡ w.job = cc in
            eqb-false r.job j e (i ∙ same_job L _ _ _ x t.held k (sym t.next_top ∙ q))

    own : (a : Action) → r.action ≡ a
        → Stack (Some (Record r) ∷ L) r.job (suc (new_number L)) (next_by a (new_number L) r.link) (pending_by a (record { number = new_number L; record' = r }) (pending L r.job))
    own Put e =
        let link : r.link ≡ next L r.job = subst (λ a. Follows a L r) e h.follows in (
          record { change = newest L r e; job = refl; free = free },
          omega arith,
          refl,
          carried _ L _ _ _ _ _ _ (omega arith) link (λ x k lt w p a q. no_put w p a) (old.stacks r.job),
        )
      where
        no_put : (w : PageRecord C) → ◌≡◌ {A = Option (Slot C)} (Some (Record r)) (Some (Record w)) → w.action ≡ TakeBack → ⊥
        no_put w p a = let z : ◌≡◌ {A = ℕ} 0 1 = cc in omega arith

        free : Free (Some (Record r) ∷ L) (new_number L)
        free k w g q = go (seen _ L k w g)
          where
            go : Seen TakeBack (Some (Record r)) L k w → ⊥
            go (added _ p a b) = no_put w p a
            go (stood o b) = let c = old.changes k w o in omega (arith, within L _ _ c.1.slot, sym b ∙ q)
    own TakeBack e =
        let t = top_of _ L r old h refl e in
        let u = t.undoes in
        rw u.stack (carried _ L _ _ _ _ _ _ (omega (arith, within L _ _ t.held.change.slot)) u.link (spares t) t.under)
      where
        spares : (t : Top L r) (x : Numbered C) → Held L r.job x → x.number < t.undoes.top.number → Spares (Some (Record r)) L x.number
        spares t x k lt w p a q = let n : next L r.job ≡ x.number = cc in omega (arith, t.next_top)

    recorded : (j : ℕ) → Stack (Some (Record r) ∷ L) j (suc (new_number L)) (next (Some (Record r) ∷ L) j) (pending (Some (Record r) ∷ L) j)
    recorded j = go (eqb r.job j) refl
      where
        x : Numbered C
        x = record { number = new_number L; record' = r }

        go : (t : Bool) → eqb r.job j ≡ t
            → Stack (Some (Record r) ∷ L) j (suc (new_number L)) (cond t (next_by r.action (new_number L) r.link) (next L j)) (cond t (pending_by r.action x (pending L j)) (pending L j))
        go true e = subst (λ i. Stack (Some (Record r) ∷ L) i (suc (new_number L)) (next_by r.action (new_number L) r.link) (pending_by r.action x (pending L i))) (eqb-true _ _ e) (own r.action refl)
        go false e = others j e

  sound : (L : Log C) → Legal size capacity L → Sound L
  sound [] h = record { stacks = λ j. tt; changes = λ k r g. absurd (empty k r g) }
  sound (None ∷ L) h = absurd h.1
  sound (Some (Record r) ∷ L) h = let old = sound L h.0 in record { stacks = recorded L r old h.1; changes = changes_later _ L old h.1 }
  sound (Some (Job e j) ∷ L) h =
      let old = sound L h.0 in
      record { stacks = quiet _ L old (λ r q. let z : ◌≡◌ {A = ℕ} 0 1 = cc in omega arith); changes = changes_later _ L old h.1 }
  sound (Some (Checkpoint c) ∷ L) h =
      let old = sound L h.0 in
      record { stacks = quiet _ L old (λ r q. let z : ◌≡◌ {A = ℕ} 0 1 = cc in omega arith); changes = changes_later _ L old h.1 }

  pub never_twice : (L : Log C) → Legal size capacity L → NeverTwice L
  never_twice [] h n k r w g f e = absurd (empty n r g)
  never_twice (s ∷ L) h n k r w g f e = go (seen s L n r g) (seen s L k w f) (never_twice L h.0 n k r w)
    where
      apart : (i : ℕ) (v x : PageRecord C) → s ≡ Some (Record v) → v.action ≡ TakeBack → Compensation L i x → stands_for L i x ≡ next L v.job → ⊥
      apart i v x q a o e' = let t = top_of s L v (sound L h.0) h.1 q a in t.held.free i x o (e' ∙ t.next_top)

      go : Seen TakeBack s L n r → Seen TakeBack s L k w → (Compensation L n r → Compensation L k w → stands_for L n r ≡ stands_for L k w → n ≡ k) → n ≡ k
      go (added p _ _ _) (added q _ _ _) older = p ∙ sym q
      go (added _ q a b) (stood o c) older = absurd (apart k r w q a o (sym c ∙ (sym e ∙ b)))
      go (stood o c) (added _ q a b) older = absurd (apart n w r q a o (sym c ∙ (e ∙ b)))
      go (stood o b) (stood p c) older = older o p (sym b ∙ (e ∙ c))

  -- Every change is pending or has its compensation

  record Taken (L : Log C) (n : ℕ) : Type 0 where
    slot : ℕ
    record' : PageRecord C
    compensation : Compensation L slot record'
    this : stands_for L slot record' ≡ n

  taken_later : (s : Option (Slot C)) (L : Log C) (n : ℕ) → Taken L n → Taken (s ∷ L) n
  taken_later s L n t = record {
    slot = t.slot;
    record' = t.record';
    compensation = later s L _ _ t.compensation;
    this = before s L t.slot t.record' (omega (arith, within L _ _ t.compensation.slot)) ∙ t.this;
  }

  abbrev Among : ℕ → List (Numbered C) → Type 0
  Among n [] = ⊥
  Among n (x ∷ xs) = (x.number ≡ n) ⊎ Among n xs

  abbrev Fate : Log C → ℕ → List (Numbered C) → Type 0
  Fate L n xs = Among n xs ⊎ Taken L n

  -- a change just added is pending
  pushed : (L : Log C) (r : PageRecord C) → r.action ≡ Put → Among (new_number L) (pending (Some (Record r) ∷ L) r.job)
  pushed L r a = rw (eq-eqb r.job r.job refl, a) (inl refl)

  -- a pending change stays so, but for the one that a new record takes back
  stays : (L : Log C) (r : PageRecord C) → Sound L → Recorded size L r → (n j : ℕ) → Among n (pending L j) → Fate (Some (Record r) ∷ L) n (pending (Some (Record r) ∷ L) j)
  stays L r old h n j i = go (eqb r.job j) r.action refl refl
    where
      x : Numbered C
      x = record { number = new_number L; record' = r }

      popped : (a : r.action ≡ TakeBack) (t : Top L r) → Among n (t.undoes.top ∷ t.undoes.below) → Fate (Some (Record r) ∷ L) n t.undoes.below
      popped a t (inl e) = inr (record {
        slot = new_number L;
        record' = r;
        compensation = newest L r a;
        this = before_new _ L (new_number L) r refl ∙ (t.next_top ∙ e);
      })
      popped a t (inr k) = inl k

      go : (t : Bool) (a : Action) → eqb r.job j ≡ t → r.action ≡ a → Fate (Some (Record r) ∷ L) n (cond t (pending_by a x (pending L j)) (pending L j))
      go false a e q = inl i
      go true Put e q = inl (inr i)
      go true TakeBack e q =
          let t = top_of _ L r old h refl q in
          let p : pending L j ≡ t.undoes.top ∷ t.undoes.below = ap (pending L) (sym (eqb-true _ _ e)) ∙ t.undoes.stack in
          subst (λ xs. Fate (Some (Record r) ∷ L) n (rest xs)) (sym p) (popped q t (subst (Among n) p i))

  each_later : (s : Option (Slot C)) (L : Log C) → ((n j : ℕ) → Among n (pending L j) → Fate (s ∷ L) n (pending (s ∷ L) j))
      → ((n : ℕ) (r : PageRecord C) → Change L n r → Fate L n (pending L r.job)) → (n : ℕ) (r : PageRecord C) → Change (s ∷ L) n r → Fate (s ∷ L) n (pending (s ∷ L) r.job)
  each_later s L keeps older n r g = go (seen s L n r g)
    where
      go : Seen Put s L n r → Fate (s ∷ L) n (pending (s ∷ L) r.job)
      go (added p q a _) = inl (subst (λ x. Among n (pending (x ∷ L) r.job)) (sym q) (subst (λ k. Among k (pending (Some (Record r) ∷ L) r.job)) (sym p) (pushed L r a)))
      go (stood o _) = ⊎_elim (keeps n r.job) (λ t. inr (taken_later s L n t)) (older n r o)

  each : (L : Log C) → Legal size capacity L → (n : ℕ) (r : PageRecord C) → Change L n r → Fate L n (pending L r.job)
  each [] h n r g = absurd (empty n r g)
  each (None ∷ L) h n r g = absurd h.1
  each (Some (Record w) ∷ L) h n r g = each_later _ L (stays L w (sound L h.0) h.1) (each L h.0) n r g
  each (Some (Job e j) ∷ L) h n r g = each_later _ L (λ m k i. inl i) (each L h.0) n r g
  each (Some (Checkpoint c) ∷ L) h n r g = each_later _ L (λ m k i. inl i) (each L h.0) n r g

  pub once_each : (kept : ℕ → Bool) (L : Log C) → Legal size capacity L → ((j : ℕ) → kept j ≡ false → pending L j ≡ []) → AllOnce kept L
  once_each kept L h none n r g q = go (subst (Fate L n) (none r.job q) (each L h n r g))
    where
      go : Fate L n [] → ExactlyOnce L n
      go (inl i) = absurd i
      go (inr t) = record {
        slot = t.slot;
        record' = t.record';
        compensation = t.compensation;
        this = t.this;
        only = λ k w f e. never_twice L h k t.slot w t.record' f t.compensation (e ∙ sym t.this);
      }

-- A compensation takes back the change that it stands for

module _ {C : Type 0} (size capacity : ℕ) where
  pub takes_back : (L : Log C) → Legal size capacity L → AllTakeBack L
  takes_back [] h n r c = let e = c.slot in let z : ◌≡◌ {A = ℕ} 0 1 = cc in absurd (omega arith)
  takes_back (s ∷ L) h n r c = go (eqb n (new_number L)) refl (takes_back L h.0 n r)
    where
      grown : (k : ℕ) (x : Option (Slot C)) → k ≤ length L → at L k ≡ x → at (s ∷ L) k ≡ x
      grown k x le e = at_more k s L le ∙ e

      here_now : (x : Option (Slot C)) → x ≡ Some (Record r) → NextSlot size x L → n ≡ new_number L → TakesBack (s ∷ L) n r
      here_now None e f i = absurd f
      here_now (Some (Job v j)) e f i = let z : ◌≡◌ {A = ℕ} 0 1 = cc in absurd (omega arith)
      here_now (Some (Checkpoint p)) e f i = let z : ◌≡◌ {A = ℕ} 0 1 = cc in absurd (omega arith)
      here_now (Some (Record t)) e f i = undone (subst (λ (a : Action). Follows a L r) c.action (subst (λ (t : PageRecord C). Follows t.action L t) same f.follows))
        where
          same : t ≡ r
          same = cc

          undone : Undoes L r → TakesBack (s ∷ L) n r
          undone u =
              let x = pending_at size capacity L r.job u.top h.0 (subst (In u.top) (sym u.stack) (here refl)) in
              let number : stands_for (s ∷ L) n r ≡ u.top.number
              = ap (λ (k : ℕ). next (up_to (pred k) (s ∷ L)) r.job) i ∙ (ap (λ (M : Log C). next M r.job) (up_to_more (length L) s L (omega arith) ∙ up_to_all (length L) L (omega arith))
              ∙ (next_top size capacity L r.job h.0 ∙ ap top_number u.stack)) in
              record {
                taken = u.top.record';
                stands = record { slot = ap (at (s ∷ L)) number ∙ grown u.top.number _ x.within x.in_log; action = x.puts };
                page = u.page;
                job = sym x.own;
                link = u.link;
                change = u.change;
              }

      go : (t : Bool) → eqb n (new_number L) ≡ t → (Compensation L n r → TakesBack L n r) → TakesBack (s ∷ L) n r
      go true e k = here_now s (sym (cond-true (eqb n (new_number L)) s (at L n) e) ∙ c.slot) h.1 (eqb-true _ _ e)
      go false e k =
          let old : at L n ≡ Some (Record r) = sym (cond-false (eqb n (new_number L)) s (at L n) e) ∙ c.slot in
          let le : n ≤ length L = ⊎_elim (λ lt. let none = at_above n L lt in let z : ◌≡◌ {A = ℕ} 0 1 = cc in absurd (omega arith)) (λ le. le) (cases_lt (length L) n) in
          let x = k (record { slot = old; action = c.action }) in
          let short : up_to (pred n) (s ∷ L) ≡ up_to (pred n) L = up_to_more (pred n) s L (omega arith) in
          let number : stands_for (s ∷ L) n r ≡ stands_for L n r = ap (λ (M : Log C). next M r.job) short in
          let within : stands_for L n r ≤ length L = ⊎_elim (λ lt. let none = at_above (stands_for L n r) L lt in let there = x.stands.slot in let z : ◌≡◌ {A = ℕ} 0 1 = cc in absurd (omega arith)) (λ le. le) (cases_lt (length L) (stands_for L n r)) in
          record {
            taken = x.taken;
            stands = record { slot = ap (at (s ∷ L)) number ∙ grown (stands_for L n r) _ within x.stands.slot; action = x.stands.action };
            page = x.page;
            job = x.job;
            link = x.link;
            change = x.change;
          }
