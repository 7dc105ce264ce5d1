-- What a legal log says of its jobs: their numbers, their table, and the stacks of their pending changes. Assumes nothing.
use Rattle.std.proofs.Common.{◌≡◌, ℕ, suc, ◌<◌, ◌≤◌, Bool, true, false, cond, ◌&&◌, ◌||◌, eqb, List, [], ◌∷◌, length, is_some, Some, None, Option, unwrap_or, sym, refl, ap, ◌∙◌, subst, arith}
use Rattle.std.specs.Option.{option_map}
use Rattle.std.proofs.lemmas.Bool.{eqb-true, eq-eqb, ne_eqb, both_ways}
use Rattle.format.specs.declared.slot.Slot.{Slot}
use Rattle.format.specs.declared.slot.Slot.TheVariants.{Record, Job, Checkpoint}
use Rattle.format.specs.declared.slot.PageRecord.{PageRecord}
use Rattle.format.specs.declared.slot.Action.{Action}
use Rattle.format.specs.declared.slot.Action.TheVariants.{Put, TakeBack}
use Rattle.format.specs.declared.slot.JobEvent.{JobEvent}
use Rattle.format.specs.declared.slot.JobEvent.TheVariants.{Open, Commit, End}
use Rattle.recovery_log.specs.Log.{Log, new_number, opens, commits, is_open, stands, is_committed, next, next_by, Numbered, pending, pending_by}
use Rattle.rules.specs.declared.table.JobEntry.{JobEntry}
use Rattle.rules.specs.Reading.{at}
use Rattle.rules.specs.Service.{change_of}
use Rattle.rules.specs.Tables.{new_job, find_job, is_job, next_of}
use Rattle.promises.proofs.Legal.{Legal, open_jobs, Turns, Follows, Recorded}
use Rattle.promises.proofs.JobTables.{at_next, find_with_next, find_without_job, find_entered, length_with_next, length_without_job, length_entered, Ascending, ascending_with_next, ascending_without_job, ascending_entered, find_in}
use Rattle.promises.proofs.Membership.{In, here, there}

-- of a job the table has its number and its next, if it is open
abbrev told : Bool → ℕ → ℕ → Option JobEntry
told true j n = Some (new_job j n)
told false j n = None

module _ {C : Type 0} where
  -- the number of the newest on a stack of changes, or 0
  abbrev pub top_number : List (Numbered C) → ℕ
  top_number [] = 0
  top_number (x ∷ xs) = x.number

  -- what holds of each pending change of a job
  pub record Stacked (size : ℕ) (L : Log C) (j : ℕ) (x : Numbered C) : Type 0 where
    pub in_log : at L x.number ≡ Some (Record x.record')
    pub puts : x.record'.action ≡ Put
    pub own : x.record'.job ≡ j
    pub counted : 1 ≤ x.number
    pub within : x.number ≤ length L
    pub inside : x.record'.page < size
    pub after : j < x.number

  -- a stack of changes: each links to the one below it, which is older
  abbrev Chain : ℕ → Log C → ℕ → List (Numbered C) → Type 0
  Chain size L j [] = Unit {0}
  Chain size L j (x ∷ xs) = Stacked size L j x × (x.record'.link ≡ top_number xs) × (top_number xs < x.number) × Chain size L j xs

  stacked_more : (size : ℕ) (L : Log C) (j : ℕ) (x : Numbered C) (s : Option (Slot C)) → Stacked size L j x → Stacked size (s ∷ L) j x
  stacked_more size L j x s k = record {
    in_log = rw (ne_eqb x.number (new_number L) (λ p. omega arith)) k.in_log;
    puts = k.puts;
    own = k.own;
    counted = k.counted;
    within = omega arith;
    inside = k.inside;
    after = k.after;
  }

  chain_more : (size : ℕ) (L : Log C) (j : ℕ) (s : Option (Slot C)) (xs : List (Numbered C)) → Chain size L j xs → Chain size (s ∷ L) j xs
  chain_more size L j s [] c = tt
  chain_more size L j s (x ∷ xs) c = (stacked_more size L j x s c.0, c.1, c.2, chain_more size L j s xs c.3)

  top_within : (size : ℕ) (L : Log C) (j : ℕ) (xs : List (Numbered C)) → Chain size L j xs → top_number xs ≤ length L
  top_within size L j [] c = omega arith
  top_within size L j (x ∷ xs) c = c.0.within

  chain_in : (size : ℕ) (L : Log C) (j : ℕ) (xs : List (Numbered C)) (x : Numbered C) → Chain size L j xs → In x xs → Stacked size L j x
  chain_in size L j [] x c i = elim i [ ]
  chain_in size L j (y ∷ ys) x c (here p) = subst (Stacked size L j) (sym p) c.0
  chain_in size L j (y ∷ ys) x c (there i) = chain_in size L j ys x c.3 i

  chain_falls : (size : ℕ) (L : Log C) (j : ℕ) (n : ℕ) (xs : List (Numbered C)) (y : Numbered C) → Chain size L j xs → top_number xs < n → In y xs → y.number < n
  chain_falls size L j n [] y c lt i = elim i [ ]
  chain_falls size L j n (x ∷ xs) y c lt (here p) = subst (λ z. z.number < n) (sym p) lt
  chain_falls size L j n (x ∷ xs) y c lt (there i) = let lower = c.2 in chain_falls size L j n xs y c.3 (omega arith) i

module _ {C : Type 0} (size capacity : ℕ) where
  -- Numbers: a job's number is that of its open's slot

  pub open_old : (L : Log C) (j : ℕ) → Legal size capacity L → is_open L j ≡ true → (1 ≤ j) × (j ≤ length L)
  open_old [] j h o = let z : ◌≡◌ {A = ℕ} 0 1 = cc in absurd (omega arith)
  open_old (None ∷ L) j h o = absurd h.1
  open_old (Some (Record r) ∷ L) j h o = let k = open_old L j h.0 o in (k.0, omega arith)
  open_old (Some (Job e k) ∷ L) j h o = go (eqb k j) refl e h.1 o (open_old L j h.0)
    where
      go : (t : Bool) → eqb k j ≡ t → (e : JobEvent) → Turns e L k → cond t (opens e) (is_open L j) ≡ true
          → (is_open L j ≡ true → (1 ≤ j) × (j ≤ length L)) → (1 ≤ j) × (j ≤ suc (length L))
      go true q Open t p ih = let same = eqb-true k j q in let own = t.own in (omega arith, omega arith)
      go true q Commit t p ih = let z : ◌≡◌ {A = ℕ} 0 1 = cc in absurd (omega arith)
      go true q End t p ih = let z : ◌≡◌ {A = ℕ} 0 1 = cc in absurd (omega arith)
      go false q e t p ih = let k = ih p in (k.0, omega arith)
  open_old (Some (Checkpoint c) ∷ L) j h o = let k = open_old L j h.0 o in (k.0, omega arith)

  -- the job of an event
  turns_old : (e : JobEvent) (L : Log C) (j : ℕ) → Legal size capacity L → Turns e L j → (1 ≤ j) × (j ≤ suc (length L))
  turns_old Open L j h t = let own = t.own in (omega arith, omega arith)
  turns_old Commit L j h t = let k = open_old L j h t in (k.0, omega arith)
  turns_old End L j h t = let k = open_old L j h t.opened in (k.0, omega arith)

  pub stands_old : (f : JobEvent → Bool) (L : Log C) (j : ℕ) → Legal size capacity L → stands f L j ≡ true → (1 ≤ j) × (j ≤ length L)
  stands_old f [] j h o = let z : ◌≡◌ {A = ℕ} 0 1 = cc in absurd (omega arith)
  stands_old f (None ∷ L) j h o = absurd h.1
  stands_old f (Some (Record r) ∷ L) j h o = let k = stands_old f L j h.0 o in (k.0, omega arith)
  stands_old f (Some (Job e k) ∷ L) j h o = go (eqb k j) refl o (stands_old f L j h.0)
    where
      go : (t : Bool) → eqb k j ≡ t → ((t && f e) || stands f L j) ≡ true → (stands f L j ≡ true → (1 ≤ j) × (j ≤ length L)) → (1 ≤ j) × (j ≤ suc (length L))
      go true q p ih = subst (λ i. (1 ≤ i) × (i ≤ suc (length L))) (eqb-true k j q) (turns_old e L k h.0 h.1)
      go false q p ih = let k = ih p in (k.0, omega arith)
  stands_old f (Some (Checkpoint c) ∷ L) j h o = let k = stands_old f L j h.0 o in (k.0, omega arith)

  -- a number above the length was never used
  pub fresh_open : (L : Log C) (j : ℕ) → Legal size capacity L → length L < j → is_open L j ≡ false
  fresh_open L j h lt = go (is_open L j) refl
    where
      go : (t : Bool) → is_open L j ≡ t → t ≡ false
      go true e = let k = open_old L j h e in absurd (omega arith)
      go false e = refl

  -- a record's job is no fresh one
  other_job : (L : Log C) (r : PageRecord C) (j : ℕ) → Legal size capacity L → Recorded size L r → length L < j → eqb r.job j ≡ false
  other_job L r j h s lt = let k = open_old L r.job h s.opened in ne_eqb r.job j (λ p. omega arith)

  pub fresh_pending : (L : Log C) (j : ℕ) → Legal size capacity L → length L < j → pending L j ≡ []
  fresh_pending [] j h lt = refl
  fresh_pending (None ∷ L) j h lt = absurd h.1
  fresh_pending (Some (Record r) ∷ L) j h lt = rw (other_job L r j h.0 h.1 (omega arith)) (fresh_pending L j h.0 (omega arith))
  fresh_pending (Some (Job e k) ∷ L) j h lt = fresh_pending L j h.0 (omega arith)
  fresh_pending (Some (Checkpoint c) ∷ L) j h lt = fresh_pending L j h.0 (omega arith)

  pub fresh_next : (L : Log C) (j : ℕ) → Legal size capacity L → length L < j → next L j ≡ 0
  fresh_next [] j h lt = refl
  fresh_next (None ∷ L) j h lt = absurd h.1
  fresh_next (Some (Record r) ∷ L) j h lt = rw (other_job L r j h.0 h.1 (omega arith)) (fresh_next L j h.0 (omega arith))
  fresh_next (Some (Job e k) ∷ L) j h lt = fresh_next L j h.0 (omega arith)
  fresh_next (Some (Checkpoint c) ∷ L) j h lt = fresh_next L j h.0 (omega arith)

  -- The table is the log's

  looked_up : (L : Log C) (j : ℕ) → Legal size capacity L → find_job j (open_jobs L) ≡ told (is_open L j) j (next L j)
  looked_up [] j h = refl
  looked_up (None ∷ L) j h = absurd h.1
  looked_up (Some (Record r) ∷ L) j h = find_with_next j r.job _ (open_jobs L) ∙ go (eqb r.job j) (is_open L j) (looked_up L j h.0)
    where
      n : ℕ
      n = next_by r.action (new_number L) r.link

      go : (b t : Bool) → find_job j (open_jobs L) ≡ told t j (next L j)
          → cond b (option_map (at_next n) (find_job j (open_jobs L))) (find_job j (open_jobs L)) ≡ told t j (cond b n (next L j))
      go true true ih = ap (option_map (at_next n)) ih
      go true false ih = ap (option_map (at_next n)) ih
      go false t ih = ih
  looked_up (Some (Job e k) ∷ L) j h = go e h.1 (looked_up L j h.0) (looked_up L k h.0)
    where
      closed : (b : Bool) → find_job j (open_jobs L) ≡ told (is_open L j) j (next L j) → cond b None (find_job j (open_jobs L)) ≡ told (cond b false (is_open L j)) j (next L j)
      closed true ih = refl
      closed false ih = ih

      opened : (b : Bool) → eqb k j ≡ b → k ≡ new_number L → find_job j (open_jobs L) ≡ told (is_open L j) j (next L j)
          → cond b (Some (new_job k 0)) (find_job j (open_jobs L)) ≡ told (cond b true (is_open L j)) j (next L j)
      opened true q own ih = let same = eqb-true k j q in rw (fresh_next L j h.0 (omega arith), same) refl
      opened false q own ih = ih

      go : (e : JobEvent) → Turns e L k → find_job j (open_jobs L) ≡ told (is_open L j) j (next L j) → find_job k (open_jobs L) ≡ told (is_open L k) k (next L k)
          → find_job j (open_jobs (Some (Job e k) ∷ L)) ≡ told (cond (eqb k j) (opens e) (is_open L j)) j (next L j)
      go Open t ih at-k =
          let own = t.own in
          let fresh : find_job k (open_jobs L) ≡ None = at-k ∙ ap (λ b. told b k (next L k)) (fresh_open L k h.0 (omega arith)) in
          find_entered j (new_job k 0) (open_jobs L) fresh ∙ opened (eqb k j) refl own ih
      go Commit t ih at-k = find_without_job j k (open_jobs L) ∙ closed (eqb k j) ih
      go End t ih at-k = find_without_job j k (open_jobs L) ∙ closed (eqb k j) ih
  looked_up (Some (Checkpoint c) ∷ L) j h = looked_up L j h.0

  pub table_has : (L : Log C) (j : ℕ) → Legal size capacity L → is_job j (open_jobs L) ≡ is_open L j
  table_has L j h = ap is_some (looked_up L j h) ∙ go (is_open L j)
    where
      go : (b : Bool) → is_some (told b j (next L j)) ≡ b
      go true = refl
      go false = refl

  pub table_find : (L : Log C) (j : ℕ) → Legal size capacity L → is_open L j ≡ true → find_job j (open_jobs L) ≡ Some (new_job j (next L j))
  table_find L j h o = looked_up L j h ∙ ap (λ b. told b j (next L j)) o

  pub table_next : (L : Log C) (j : ℕ) → Legal size capacity L → is_open L j ≡ true → next_of j (open_jobs L) ≡ next L j
  table_next L j h o = ap (λ x. unwrap_or (option_map (λ (e : JobEntry). e.next) x) 0) (table_find L j h o)

  -- a closed job is not found
  pub table_lacks : (L : Log C) (j : ℕ) → Legal size capacity L → is_open L j ≡ false → find_job j (open_jobs L) ≡ None
  table_lacks L j h o = looked_up L j h ∙ ap (λ b. told b j (next L j)) o

  pub table_few : (L : Log C) → Legal size capacity L → length (open_jobs L) ≤ 8
  table_few [] h = omega arith
  table_few (None ∷ L) h = absurd h.1
  table_few (Some (Record r) ∷ L) h = let n = next_by r.action (new_number L) r.link in rw (length_with_next r.job n (open_jobs L)) (table_few L h.0)
  table_few (Some (Job Open k) ∷ L) h = let p = h.1.place in rw (length_entered (new_job k 0) (open_jobs L)) (omega arith)
  table_few (Some (Job Commit k) ∷ L) h = omega (arith, length_without_job k (open_jobs L), table_few L h.0)
  table_few (Some (Job End k) ∷ L) h = omega (arith, length_without_job k (open_jobs L), table_few L h.0)
  table_few (Some (Checkpoint c) ∷ L) h = table_few L h.0

  pub table_ascending : (L : Log C) → Legal size capacity L → Ascending (open_jobs L)
  table_ascending [] h = tt
  table_ascending (None ∷ L) h = absurd h.1
  table_ascending (Some (Record r) ∷ L) h = ascending_with_next r.job _ (open_jobs L) (table_ascending L h.0)
  table_ascending (Some (Job Open k) ∷ L) h =
      let own = h.1.own in
      ascending_entered (new_job k 0) (open_jobs L) (table_lacks L k h.0 (fresh_open L k h.0 (omega arith))) (table_ascending L h.0)
  table_ascending (Some (Job Commit k) ∷ L) h = ascending_without_job k (open_jobs L) (table_ascending L h.0)
  table_ascending (Some (Job End k) ∷ L) h = ascending_without_job k (open_jobs L) (table_ascending L h.0)
  table_ascending (Some (Checkpoint c) ∷ L) h = table_ascending L h.0

  pub table_entry : (L : Log C) (e : JobEntry) → Legal size capacity L → In e (open_jobs L) → (is_open L e.job ≡ true) × (e ≡ new_job e.job (next L e.job))
  table_entry L e h i = go (is_open L e.job) (sym (find_in e (open_jobs L) (table_ascending L h) i) ∙ looked_up L e.job h)
    where
      go : (b : Bool) → Some e ≡ told b e.job (next L e.job) → (b ≡ true) × (e ≡ new_job e.job (next L e.job))
      go true p = (refl, ap (λ o. unwrap_or o e) p)
      go false p = let z : ◌≡◌ {A = ℕ} 0 1 = cc in absurd (omega arith)

  -- Stacks

  chain : (L : Log C) (j : ℕ) → Legal size capacity L → (next L j ≡ top_number (pending L j)) × Chain size L j (pending L j)
  chain [] j h = (refl, tt)
  chain (None ∷ L) j h = absurd h.1
  chain (Some (Record r) ∷ L) j h = go (eqb r.job j) refl (chain L j h.0)
    where
      S : Option (Slot C)
      S = Some (Record r)

      x : Numbered C
      x = record { number = new_number L; record' = r }

      acts : (a : Action) → r.action ≡ a → r.job ≡ j → Follows a L r → next L j ≡ top_number (pending L j) → Chain size L j (pending L j)
          → (next_by a (new_number L) r.link ≡ top_number (pending_by a x (pending L j))) × Chain size (S ∷ L) j (pending_by a x (pending L j))
      acts Put q same f top c =
          let old = open_old L r.job h.0 h.1.opened in
          let within = top_within size L j (pending L j) c in
          let new : Stacked size (S ∷ L) j x = record {
            in_log = rw (eq-eqb (new_number L) (new_number L) refl) refl;
            puts = q;
            own = same;
            counted = omega arith;
            within = omega arith;
            inside = h.1.inside;
            after = omega arith;
          } in
          (refl, (new, f ∙ (ap (next L) same ∙ top), omega arith, chain_more size L j S (pending L j) c))
      acts TakeBack q same f top c =
          let stack : pending L j ≡ f.top ∷ f.below = subst (λ i. pending L i ≡ f.top ∷ f.below) same f.stack in
          let old : Chain size L j (f.top ∷ f.below) = subst (Chain size L j) stack c in
          rw stack (f.link ∙ old.1, chain_more size L j S f.below old.3)

      go : (b : Bool) → eqb r.job j ≡ b → (next L j ≡ top_number (pending L j)) × Chain size L j (pending L j)
          → (cond b (next_by r.action (new_number L) r.link) (next L j) ≡ top_number (cond b (pending_by r.action x (pending L j)) (pending L j)))
          × Chain size (S ∷ L) j (cond b (pending_by r.action x (pending L j)) (pending L j))
      go true e k = acts r.action refl (eqb-true r.job j e) h.1.follows k.0 k.1
      go false e k = (k.0, chain_more size L j S (pending L j) k.1)
  chain (Some (Job e k) ∷ L) j h = let c = chain L j h.0 in (c.0, chain_more size L j (Some (Job e k)) (pending L j) c.1)
  chain (Some (Checkpoint p) ∷ L) j h = let c = chain L j h.0 in (c.0, chain_more size L j (Some (Checkpoint p)) (pending L j) c.1)

  pub next_top : (L : Log C) (j : ℕ) → Legal size capacity L → next L j ≡ top_number (pending L j)
  next_top L j h = (chain L j h).0

  -- the chain of a stack in parts
  chain_of : (L : Log C) (j : ℕ) (xs : List (Numbered C)) → Legal size capacity L → pending L j ≡ xs → Chain size L j xs
  chain_of L j xs h e = subst (Chain size L j) e (chain L j h).1

  pub chained : (L : Log C) (j : ℕ) (x : Numbered C) (xs : List (Numbered C)) → Legal size capacity L → pending L j ≡ x ∷ xs → x.record'.link ≡ top_number xs
  chained L j x xs h e = (chain_of L j (x ∷ xs) h e).1

  pub pending_at : (L : Log C) (j : ℕ) (x : Numbered C) → Legal size capacity L → In x (pending L j) → Stacked size L j x
  pending_at L j x h i = chain_in size L j (pending L j) x (chain L j h).1 i

  pub descending : (L : Log C) (j : ℕ) (x y : Numbered C) (xs : List (Numbered C)) → Legal size capacity L → pending L j ≡ x ∷ xs → In y xs → y.number < x.number
  descending L j x y xs h e i = let c = chain_of L j (x ∷ xs) h e in chain_falls size L j x.number xs y c.3 c.2 i

  pub top_change : (L : Log C) (j : ℕ) (x : Numbered C) (xs : List (Numbered C)) → Legal size capacity L → pending L j ≡ x ∷ xs
      → change_of j (at L (next L j)) ≡ Some x.record'
  top_change L j x xs h e =
      let k = (chain_of L j (x ∷ xs) h e).0 in
      ap (λ n. change_of j (at L n)) (next_top L j h ∙ ap top_number e) ∙ (ap (change_of j) k.in_log ∙ rw (k.puts, eq-eqb x.record'.job j k.own) refl)

  pub next_none : (L : Log C) (j : ℕ) → Legal size capacity L → next L j ≡ 0 → pending L j ≡ []
  next_none L j h e = go (pending L j) refl
    where
      go : (xs : List (Numbered C)) → pending L j ≡ xs → pending L j ≡ []
      go [] p = p
      go (x ∷ xs) p = let k = (chain_of L j (x ∷ xs) h p).0.counted in let n = next_top L j h ∙ ap top_number p in absurd (omega arith)

  -- Jobs that are closed

  pub closed_empty : (L : Log C) (j : ℕ) → Legal size capacity L → is_open L j ≡ false → is_committed L j ≡ false → pending L j ≡ []
  closed_empty [] j h o c = refl
  closed_empty (None ∷ L) j h o c = absurd h.1
  closed_empty (Some (Record r) ∷ L) j h o c = go (eqb r.job j) refl (closed_empty L j h.0 o c)
    where
      go : (b : Bool) → eqb r.job j ≡ b → pending L j ≡ []
          → cond b (pending_by r.action (record { number = new_number L; record' = r }) (pending L j)) (pending L j) ≡ []
      go true e ih = absurd (both_ways (is_open L j) o (subst (λ i. is_open L i ≡ true) (eqb-true r.job j e) h.1.opened))
      go false e ih = ih
  closed_empty (Some (Job e k) ∷ L) j h o c = go (eqb k j) refl e h.1 o c (closed_empty L j h.0)
    where
      go : (b : Bool) → eqb k j ≡ b → (e : JobEvent) → Turns e L k → cond b (opens e) (is_open L j) ≡ false → ((b && commits e) || is_committed L j) ≡ false
          → (is_open L j ≡ false → is_committed L j ≡ false → pending L j ≡ []) → pending L j ≡ []
      go true q Open t o c ih = absurd (both_ways true o refl)
      go true q Commit t o c ih = absurd (both_ways true c refl)
      go true q End t o c ih = subst (λ i. pending L i ≡ []) (eqb-true k j q) t.nothing
      go false q e t o c ih = ih o c
  closed_empty (Some (Checkpoint p) ∷ L) j h o c = closed_empty L j h.0 o c

  pub committed_closed : (L : Log C) (j : ℕ) → Legal size capacity L → is_committed L j ≡ true → is_open L j ≡ false
  committed_closed [] j h c = refl
  committed_closed (None ∷ L) j h c = absurd h.1
  committed_closed (Some (Record r) ∷ L) j h c = committed_closed L j h.0 c
  committed_closed (Some (Job e k) ∷ L) j h c = go (eqb k j) refl e h.1 c (committed_closed L j h.0)
    where
      go : (b : Bool) → eqb k j ≡ b → (e : JobEvent) → Turns e L k → ((b && commits e) || is_committed L j) ≡ true
          → (is_committed L j ≡ true → is_open L j ≡ false) → cond b (opens e) (is_open L j) ≡ false
      go true q Open t c ih = let own = t.own in let same = eqb-true k j q in let old = stands_old commits L j h.0 c in absurd (omega arith)
      go true q Commit t c ih = refl
      go true q End t c ih = refl
      go false q e t c ih = ih c
  committed_closed (Some (Checkpoint p) ∷ L) j h c = committed_closed L j h.0 c
