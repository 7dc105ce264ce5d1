-- Under exclusivity a job's pending changes on a page are its changes in the page's pile, an open job's on top, and those of committed jobs stay.
use Rattle.std.proofs.Common.{◌≡◌, ℕ, suc, ◌<◌, ◌≤◌, Bool, true, false, cond, ◌||◌, eqb, List, [], ◌∷◌, length, Some, None, Option, sym, refl, ap, ◌∙◌, subst, arith}
use Rattle.std.proofs.lemmas.Bool.{eqb-true, eq-eqb, ne_eqb, and_parts, both_ways, or_right}
use Rattle.std.proofs.lemmas.Bool.Decides.{nat_tests}
use Rattle.format.specs.declared.slot.Slot.{Slot}
use Rattle.format.specs.declared.slot.Slot.TheVariants.{Record, Job, Checkpoint}
use Rattle.format.specs.declared.slot.PageRecord.{PageRecord}
use Rattle.format.specs.declared.slot.Action.{Action}
use Rattle.format.specs.declared.slot.Action.TheVariants.{Put, TakeBack}
use Rattle.format.specs.declared.slot.JobEvent.{JobEvent}
use Rattle.format.specs.declared.slot.JobEvent.TheVariants.{Open, Commit, End}
use Rattle.recovery_log.specs.Log.{Log, new_number, Numbered, rest, pending, pending_by, is_open, is_committed, opens}
use Rattle.promises.proofs.Legal.{pile, Legal, Undoes, Follows, Turns, Exclusive, none_by, Older, same, more}
use Rattle.promises.proofs.Membership.{In, here, there}
use Rattle.promises.proofs.Keeping.{keep, keep_rest, in_none, in_rest, in_keep, in_kept}

module _ {C : Type 0} where
  abbrev pub on_page : ℕ → List (Numbered C) → List (Numbered C)
  on_page p xs = keep (λ x. eqb x.record'.page p) xs

  abbrev pub by_job : ℕ → List (Numbered C) → List (Numbered C)
  by_job j xs = keep (λ x. eqb x.record'.job j) xs

  abbrev pub of_committed : Log C → List (Numbered C) → List (Numbered C)
  of_committed M xs = keep (λ x. is_committed M x.record'.job) xs

  -- the changes of the job stand before all others
  abbrev pub leads : ℕ → List (Numbered C) → Bool
  leads j [] = true
  leads j (x ∷ xs) = cond (eqb x.record'.job j) (leads j xs) (none_by j xs)

  none_rest : (j : ℕ) (xs : List (Numbered C)) → none_by j xs ≡ true → none_by j (rest xs) ≡ true
  none_rest j [] h = refl
  none_rest j (x ∷ xs) h = (and_parts _ _ h).1

  pub none_keeps : (j : ℕ) (xs : List (Numbered C)) → none_by j xs ≡ true → by_job j xs ≡ []
  none_keeps j [] h = refl
  none_keeps j (x ∷ xs) h = let k = none_keeps j xs in grind (arith, nat_tests)

  none_leads : (j : ℕ) (xs : List (Numbered C)) → none_by j xs ≡ true → leads j xs ≡ true
  none_leads j [] h = refl
  none_leads j (x ∷ xs) h = grind (arith, nat_tests)

  rest_leads : (j : ℕ) (xs : List (Numbered C)) → leads j xs ≡ true → leads j (rest xs) ≡ true
  rest_leads j [] h = refl
  rest_leads j (x ∷ xs) h = let k = none_leads j xs in grind (arith, nat_tests)

  -- where a job leads, its newest change is the newest of all
  led_top : (j : ℕ) (xs : List (Numbered C)) (top : Numbered C) (below : List (Numbered C)) → leads j xs ≡ true → by_job j xs ≡ top ∷ below
      → (xs ≡ top ∷ rest xs) × (by_job j (rest xs) ≡ below) × (eqb top.record'.job j ≡ true)
  led_top j [] top below h e = let z : ◌≡◌ {A = ℕ} 0 1 = cc in absurd (omega arith)
  led_top j (x ∷ xs) top below h e = go (eqb x.record'.job j) refl
    where
      go : (t : Bool) → eqb x.record'.job j ≡ t → (x ∷ xs ≡ top ∷ xs) × (by_job j xs ≡ below) × (eqb top.record'.job j ≡ true)
      go true q = let e' : x ∷ by_job j xs ≡ top ∷ below = rw q at e in let same' : x ≡ top = cc in ((cc), (cc), subst (λ y. eqb y.record'.job j ≡ true) same' q)
      go false q =
          let e' : by_job j xs ≡ top ∷ below = rw q at e in
          let h' : none_by j xs ≡ true = rw q at h in
          let none = none_keeps j xs h' in
          let z : ◌≡◌ {A = ℕ} 0 1 = cc in
          absurd (omega arith)

  -- Of any log

  pub pile_page : (L : Log C) (p : ℕ) (x : Numbered C) → In x (pile L p) → x.record'.page ≡ p
  pile_page [] p x i = absurd (in_none x i)
  pile_page (None ∷ L) p x i = pile_page L p x i
  pile_page (Some (Record r) ∷ L) p x i = go (eqb r.page p) refl r.action i (pile_page L p x)
    where
      go : (t : Bool) → eqb r.page p ≡ t → (a : Action) → In x (cond t (pending_by a (record { number = new_number L; record' = r }) (pile L p)) (pile L p)) → (In x (pile L p) → x.record'.page ≡ p) → x.record'.page ≡ p
      go true e Put (here q) ih = ap (λ y. y.record'.page) q ∙ eqb-true _ _ e
      go true e Put (there i) ih = ih i
      go true e TakeBack i ih = ih (in_rest x (pile L p) i)
      go false e a i ih = ih i
  pile_page (Some (Job e j) ∷ L) p x i = pile_page L p x i
  pile_page (Some (Checkpoint c) ∷ L) p x i = pile_page L p x i

  committed_more : (s : Option (Slot C)) (L : Log C) (j : ℕ) → is_committed L j ≡ true → is_committed (s ∷ L) j ≡ true
  committed_more None L j c = c
  committed_more (Some (Record r)) L j c = c
  committed_more (Some (Job e k)) L j c = or_right _ _ c
  committed_more (Some (Checkpoint x)) L j c = c

  committed_older : (M L : Log C) (j : ℕ) → Older M L → is_committed M j ≡ true → is_committed L j ≡ true
  committed_older M L j same c = c
  committed_older M L j (more {s = s} {L = K} o) c = committed_more s K j (committed_older M K j o c)

-- Of jobs: numbers, and stacks of jobs that are neither open nor committed

module _ {C : Type 0} (size capacity : ℕ) where
  open_number : (L : Log C) (j : ℕ) → Legal size capacity L → is_open L j ≡ true → j ≤ length L
  open_number [] j h e = absurd (both_ways _ refl e)
  open_number (None ∷ L) j h e = absurd h.1
  open_number (Some (Record r) ∷ L) j h e = omega (arith, open_number L j h.0 e)
  open_number (Some (Job a k) ∷ L) j h e = go a h.1 e (open_number L j h.0)
    where
      go : (a : JobEvent) → Turns a L k → cond (eqb k j) (opens a) (is_open L j) ≡ true → (is_open L j ≡ true → j ≤ length L) → j ≤ suc (length L)
      go Open t e ih = let o = t.own in grind (arith, nat_tests)
      go Commit t e ih = grind (arith, nat_tests)
      go End t e ih = grind (arith, nat_tests)
  open_number (Some (Checkpoint c) ∷ L) j h e = omega (arith, open_number L j h.0 e)

  committed_number : (L : Log C) (j : ℕ) → Legal size capacity L → is_committed L j ≡ true → j ≤ length L
  committed_number [] j h e = absurd (both_ways _ refl e)
  committed_number (None ∷ L) j h e = absurd h.1
  committed_number (Some (Record r) ∷ L) j h e = omega (arith, committed_number L j h.0 e)
  committed_number (Some (Job a k) ∷ L) j h e = go a h.1 e (committed_number L j h.0) (open_number L k h.0)
    where
      go : (a : JobEvent) → Turns a L k → is_committed (Some (Job a k) ∷ L) j ≡ true → (is_committed L j ≡ true → j ≤ length L) → (is_open L k ≡ true → k ≤ length L) → j ≤ suc (length L)
      go Open t e ih o = grind (arith, nat_tests)
      go Commit t e ih o = let q = o t in grind (arith, nat_tests)
      go End t e ih o = grind (arith, nat_tests)
  committed_number (Some (Checkpoint c) ∷ L) j h e = omega (arith, committed_number L j h.0 e)

  committed_closed : (L : Log C) (j : ℕ) → Legal size capacity L → is_committed L j ≡ true → is_open L j ≡ false
  committed_closed [] j h e = refl
  committed_closed (None ∷ L) j h e = absurd h.1
  committed_closed (Some (Record r) ∷ L) j h e = committed_closed L j h.0 e
  committed_closed (Some (Job a k) ∷ L) j h e = go a h.1 e (committed_closed L j h.0) (committed_number L j h.0)
    where
      go : (a : JobEvent) → Turns a L k → is_committed (Some (Job a k) ∷ L) j ≡ true → (is_committed L j ≡ true → is_open L j ≡ false) → (is_committed L j ≡ true → j ≤ length L)
          → is_open (Some (Job a k) ∷ L) j ≡ false
      go Open t e ih n = let o = t.own in grind (arith, nat_tests)
      go Commit t e ih n = grind (arith, nat_tests)
      go End t e ih n = grind (arith, nat_tests)
  committed_closed (Some (Checkpoint c) ∷ L) j h e = committed_closed L j h.0 e

  closed_empty : (L : Log C) (j : ℕ) → Legal size capacity L → is_open L j ≡ false → is_committed L j ≡ false → pending L j ≡ []
  closed_empty [] j h o c = refl
  closed_empty (None ∷ L) j h o c = absurd h.1
  closed_empty (Some (Record r) ∷ L) j h o c = go (eqb r.job j) refl (closed_empty L j h.0 o c)
    where
      go : (t : Bool) → eqb r.job j ≡ t → pending L j ≡ [] → pending (Some (Record r) ∷ L) j ≡ []
      go true e ih = absurd (both_ways (is_open L j) o (ap (is_open L) (sym (eqb-true _ _ e)) ∙ h.1.opened))
      go false e ih = rw e ih
  closed_empty (Some (Job a k) ∷ L) j h o c = go a h.1 o c (eqb k j) refl (closed_empty L j h.0)
    where
      go : (a : JobEvent) → Turns a L k → is_open (Some (Job a k) ∷ L) j ≡ false → is_committed (Some (Job a k) ∷ L) j ≡ false → (t : Bool) → eqb k j ≡ t
          → (is_open L j ≡ false → is_committed L j ≡ false → pending L j ≡ []) → pending L j ≡ []
      go Open t o c true e ih = grind (arith, nat_tests)
      go Commit t o c true e ih = grind (arith, nat_tests)
      go End t o c true e ih = subst (λ i. pending L i ≡ []) (eqb-true _ _ e) t.nothing
      go Open t o c false e ih = ih (rw e at o) (rw e at c)
      go Commit t o c false e ih = ih (rw e at o) (rw e at c)
      go End t o c false e ih = ih (rw e at o) (rw e at c)
  closed_empty (Some (Checkpoint x) ∷ L) j h o c = closed_empty L j h.0 o c

  -- Piles and stacks

  -- a job that is not yet has no changes
  fresh_none : (L : Log C) (j p : ℕ) → Legal size capacity L → length L < j → none_by j (pile L p) ≡ true
  fresh_none [] j p h n = refl
  fresh_none (None ∷ L) j p h n = absurd h.1
  fresh_none (Some (Record r) ∷ L) j p h n = go (eqb r.page p) r.action (fresh_none L j p h.0 (omega arith))
    where
      other : eqb r.job j ≡ false
      other = ne_eqb r.job j (λ e. omega (arith, open_number L r.job h.0 h.1.opened))

      go : (t : Bool) (a : Action) → none_by j (pile L p) ≡ true → none_by j (cond t (pending_by a (record { number = new_number L; record' = r }) (pile L p)) (pile L p)) ≡ true
      go false a ih = ih
      go true Put ih = rw other ih
      go true TakeBack ih = none_rest j (pile L p) ih
  fresh_none (Some (Job a k) ∷ L) j p h n = fresh_none L j p h.0 (omega arith)
  fresh_none (Some (Checkpoint c) ∷ L) j p h n = fresh_none L j p h.0 (omega arith)

  pub led : (L : Log C) (j p : ℕ) → Legal size capacity L → Exclusive L → is_open L j ≡ true → leads j (pile L p) ≡ true
  led [] j p h x o = refl
  led (None ∷ L) j p h x o = absurd h.1
  led (Some (Record r) ∷ L) j p h x o = go (eqb r.page p) refl (eqb r.job j) refl r.action (led L j p h.0 x.0 o)
    where
      alone : eqb r.page p ≡ true → eqb r.job j ≡ false → none_by j (pile L p) ≡ true
      alone e f = subst (λ q. none_by j (pile L q) ≡ true) (eqb-true _ _ e) (x.1 j o (grind (arith, nat_tests)))

      go : (t : Bool) → eqb r.page p ≡ t → (u : Bool) → eqb r.job j ≡ u → (a : Action) → leads j (pile L p) ≡ true
          → leads j (cond t (pending_by a (record { number = new_number L; record' = r }) (pile L p)) (pile L p)) ≡ true
      go false e u f a ih = ih
      go true e u f TakeBack ih = rest_leads j (pile L p) ih
      go true e true f Put ih = rw f ih
      go true e false f Put ih = rw f (alone e f)
  led (Some (Job a k) ∷ L) j p h x o = go a h.1 o (eqb k j) refl (led L j p h.0 x.0)
    where
      go : (a : JobEvent) → Turns a L k → is_open (Some (Job a k) ∷ L) j ≡ true → (t : Bool) → eqb k j ≡ t → (is_open L j ≡ true → leads j (pile L p) ≡ true) → leads j (pile L p) ≡ true
      go Open t o true e ih = none_leads j (pile L p) (fresh_none L j p h.0 (omega (arith, t.own, eqb-true _ _ e)))
      go Commit t o true e ih = absurd (both_ways _ refl (rw e at o))
      go End t o true e ih = absurd (both_ways _ refl (rw e at o))
      go Open t o false e ih = ih (rw e at o)
      go Commit t o false e ih = ih (rw e at o)
      go End t o false e ih = ih (rw e at o)
  led (Some (Checkpoint c) ∷ L) j p h x o = led L j p h.0 x.0 o

  -- the newest pending change of an open job, where its stack and the pile of that page agree
  tied_top : (L : Log C) (j p : ℕ) (top : Numbered C) (below : List (Numbered C)) → leads j (pile L p) ≡ true → on_page p (pending L j) ≡ by_job j (pile L p)
      → pending L j ≡ top ∷ below → eqb top.record'.page p ≡ true → (pile L p ≡ top ∷ rest (pile L p)) × (by_job j (rest (pile L p)) ≡ on_page p below) × (eqb top.record'.job j ≡ true)
  tied_top L j p top below l tied e q =
      led_top j (pile L p) top (on_page p below) l (sym tied ∙ ap (on_page p) e ∙ rw q)

  pub tie : (L : Log C) (j p : ℕ) → Legal size capacity L → Exclusive L → on_page p (pending L j) ≡ by_job j (pile L p)
  tie [] j p h x = refl
  tie (None ∷ L) j p h x = absurd h.1
  tie (Some (Record r) ∷ L) j p h x = go (eqb r.job j) refl (eqb r.page p) refl r.action h.1.follows (tie L j p h.0 x.0) (tie L r.job p h.0 x.0)
    where
      -- what a compensation takes back
      taken : (w : Undoes L r) → eqb r.page p ≡ true → on_page p (pending L r.job) ≡ by_job r.job (pile L p)
          → (pile L p ≡ w.top ∷ rest (pile L p)) × (by_job r.job (rest (pile L p)) ≡ on_page p w.below) × (eqb w.top.record'.job r.job ≡ true)
      taken w e tied = tied_top L r.job p w.top w.below (led L r.job p h.0 x.0 h.1.opened) tied w.stack (ap (λ q. eqb q p) (sym w.page) ∙ e)

      go : (t : Bool) → eqb r.job j ≡ t → (u : Bool) → eqb r.page p ≡ u → (a : Action) → Follows a L r → on_page p (pending L j) ≡ by_job j (pile L p) → on_page p (pending L r.job) ≡ by_job r.job (pile L p)
          → on_page p (cond t (pending_by a (record { number = new_number L; record' = r }) (pending L j)) (pending L j)) ≡ by_job j (cond u (pending_by a (record { number = new_number L; record' = r }) (pile L p)) (pile L p))
      go false e false f a w ih own = ih
      go true e true f Put w ih own = rw (e, f) (ap (λ xs. record { number = new_number L; record' = r } ∷ xs) ih)
      go true e false f Put w ih own = rw f ih
      go false e true f Put w ih own = rw e ih
      go true e true f TakeBack w ih own =
          subst (λ i. on_page p (rest (pending L i)) ≡ by_job i (rest (pile L p))) (eqb-true _ _ e) (ap (λ xs. on_page p (rest xs)) w.stack ∙ sym (taken w f own).1)
      go true e false f TakeBack w ih own =
          let stack : pending L j ≡ w.top ∷ w.below = ap (pending L) (sym (eqb-true _ _ e)) ∙ w.stack in
          keep_rest (λ y. eqb y.record'.page p) (pending L j) w.top w.below stack (ap (λ q. eqb q p) (sym w.page) ∙ f) ∙ ih
      go false e true f TakeBack w ih own =
          let t = taken w f own in
          let job : w.top.record'.job ≡ r.job = eqb-true _ _ t.2 in
          ih ∙ sym (keep_rest (λ y. eqb y.record'.job j) (pile L p) w.top (rest (pile L p)) t.0 (ap (λ k. eqb k j) job ∙ e))
  tie (Some (Job a k) ∷ L) j p h x = tie L j p h.0 x.0
  tie (Some (Checkpoint c) ∷ L) j p h x = tie L j p h.0 x.0

  pub pile_top : (L : Log C) (j : ℕ) (x : Numbered C) (xs : List (Numbered C)) → Legal size capacity L → Exclusive L → is_open L j ≡ true → pending L j ≡ x ∷ xs → pile L x.record'.page ≡ x ∷ rest (pile L x.record'.page)
  pile_top L j x xs h ex o e =
      let p = x.record'.page in
      (tied_top L j p x xs (led L j p h ex o) (tie L j p h ex) e (eq-eqb p p refl)).0

  -- what a compensation takes back is the newest of its page, and of its job
  pub pile_taken : (L : Log C) (r : PageRecord C) → Legal size capacity L → Exclusive L → is_open L r.job ≡ true → (w : Undoes L r)
      → (pile L r.page ≡ w.top ∷ rest (pile L r.page)) × (eqb w.top.record'.job r.job ≡ true)
  pile_taken L r h x o w =
      let t = tied_top L r.job r.page w.top w.below (led L r.job r.page h x o) (tie L r.job r.page h x) w.stack (eq-eqb _ _ (sym w.page)) in
      (t.0, t.2)

  -- What stands in a pile

  pub pile_pending : (L : Log C) (p : ℕ) (x : Numbered C) → Legal size capacity L → Exclusive L → In x (pile L p) → In x (pending L x.record'.job)
  pile_pending L p x h ex i =
      let j = x.record'.job in
      in_kept (λ y. eqb y.record'.page p) x (pending L j) (subst (In x) (sym (tie L j p h ex)) (in_keep (λ y. eqb y.record'.job j) x (pile L p) (eq-eqb j j refl) i))

  pub pile_live : (L : Log C) (p : ℕ) (x : Numbered C) → Legal size capacity L → Exclusive L → In x (pile L p) → (is_open L x.record'.job || is_committed L x.record'.job) ≡ true
  pile_live L p x h ex i = go (is_open L j) refl (is_committed L j) refl (pile_pending L p x h ex i)
    where
      j : ℕ
      j = x.record'.job

      go : (t : Bool) → is_open L j ≡ t → (u : Bool) → is_committed L j ≡ u → In x (pending L j) → (t || u) ≡ true
      go true o u c i = refl
      go false o true c i = refl
      go false o false c i = absurd (in_none x (subst (In x) (closed_empty L j h o c) i))

  -- What is appended changes only what open jobs have in a pile

  open_uncommitted : (M L : Log C) (j : ℕ) → Older M L → Legal size capacity L → is_open L j ≡ true → is_committed M j ≡ false
  open_uncommitted M L j o h e = go (is_committed M j) refl
    where
      go : (t : Bool) → is_committed M j ≡ t → t ≡ false
      go false c = refl
      go true c = absurd (both_ways (is_open L j) (committed_closed L j h (committed_older M L j o c)) e)

  kept_by_slot : (M : Log C) (s : Option (Slot C)) (L : Log C) (p : ℕ) → Older M L → Legal size capacity (s ∷ L) → Exclusive (s ∷ L) → of_committed M (pile (s ∷ L) p) ≡ of_committed M (pile L p)
  kept_by_slot M None L p o h x = refl
  kept_by_slot M (Some (Record r)) L p o h x = go (eqb r.page p) refl r.action h.1.follows
    where
      uncommitted : is_committed M r.job ≡ false
      uncommitted = open_uncommitted M L r.job o h.0 h.1.opened

      taken : Undoes L r → of_committed M (rest (pile L r.page)) ≡ of_committed M (pile L r.page)
      taken w =
          let t = pile_taken L r h.0 x.0 h.1.opened w in
          keep_rest (λ y. is_committed M y.record'.job) (pile L r.page) w.top (rest (pile L r.page)) t.0 (ap (is_committed M) (eqb-true _ _ t.1) ∙ uncommitted)

      go : (t : Bool) → eqb r.page p ≡ t → (a : Action) → Follows a L r
          → of_committed M (cond t (pending_by a (record { number = new_number L; record' = r }) (pile L p)) (pile L p)) ≡ of_committed M (pile L p)
      go false e a w = refl
      go true e Put w = rw uncommitted
      go true e TakeBack w = subst (λ q. of_committed M (rest (pile L q)) ≡ of_committed M (pile L q)) (eqb-true _ _ e) (taken w)
  kept_by_slot M (Some (Job e j)) L p o h x = refl
  kept_by_slot M (Some (Checkpoint c)) L p o h x = refl

  pub committed_pile : (M L : Log C) (p : ℕ) → Older M L → Legal size capacity L → Exclusive L → of_committed M (pile L p) ≡ of_committed M (pile M p)
  committed_pile M L p same h x = refl
  committed_pile M L p (more {s = s} {L = K} o) h x = kept_by_slot M s K p o h x ∙ committed_pile M K p o h.0 x.0
