-- Undo takes back every pending change of the open jobs and ends them all, with no refusal. Assumes nothing.
use Rattle.std.proofs.Common.{◌≡◌, ℕ, zero, suc, ◌<◌, ◌≤◌, Bool, true, false, cond, eqb, leb, List, [], ◌∷◌, ◌++◌, length, is_some, Some, None, sym, refl, ap, ◌∙◌, subst, ⊎_elim, append_assoc, arith}
use Rattle.std.proofs.lemmas.List.{append-nil}
use Rattle.std.proofs.lemmas.Bool.{eqb-true, eqb-false, ne_eqb, lt-ltb, both_ways, cases_Bool, and_right}
use Rattle.std.proofs.lemmas.Bool.Decides.{nat_tests}
use Rattle.format.specs.declared.page.Page.{Page}
use Rattle.format.specs.declared.slot.Slot.{Slot}
use Rattle.format.specs.declared.slot.Slot.TheVariants.{Record, Job, Checkpoint}
use Rattle.format.specs.declared.slot.Action.TheVariants.{TakeBack}
use Rattle.format.specs.declared.slot.JobEvent.TheVariants.{End}
use Rattle.format.specs.Changes.{Meaning}
use Rattle.recovery_log.specs.Log.{Log, is_open, is_committed, next, Numbered, pending}
use Rattle.rules.specs.declared.table.JobEntry.{JobEntry}
use Rattle.rules.specs.Reading.{at}
use Rattle.rules.specs.Restart.{Undoing, Undone, latest_of, latest, whole, goes_on, has_slot, ended, then_undo, end_job, end_idle, compensated, undo_change, undo_latest, undo_all, undone}
use Rattle.rules.specs.Service.{copy_of, compensation, change_of}
use Rattle.rules.specs.State.{Devices, Working, size}
use Rattle.rules.specs.Tables.{Jobs, find_job, is_job, with_next, without_job}
use Rattle.promises.proofs.Invariants.{pile_by, Durable, Redone}
use Rattle.promises.proofs.JobLaws.{top_number, next_top, next_none, pending_at, top_change, table_has, table_ascending, table_entry}
use Rattle.promises.proofs.JobTables.{above_in, Ascending}
use Rattle.promises.proofs.Legal.{pile, whole_page, open_jobs, owed_by, Legal, Exclusive}
use Rattle.promises.proofs.Membership.{In, here, there}
use Rattle.promises.proofs.OwedLaws.{owed_closed, room_now}
use Rattle.promises.proofs.Safety.{onto}
use Rattle.promises.proofs.TakingBack.{onto_append, Back, back, back_wholes, end_legal}

-- the job with the largest next is one of the table
latest_in : (x : JobEntry) (xs : Jobs) → In (latest_of x (latest xs)) (x ∷ xs)
latest_in x [] = here refl
latest_in x (y ∷ ys) = go (leb (latest_of y (latest ys)).next x.next) (latest_in y ys)
  where
    go : (t : Bool) → In (latest_of y (latest ys)) (y ∷ ys) → In (cond t x (latest_of y (latest ys))) (x ∷ y ∷ ys)
    go true i = here refl
    go false i = there i

-- a job is open after an end if it is another that was
still_open : (t o : Bool) → cond t false o ≡ true → (t ≡ false) × (o ≡ true)
still_open true o p = absurd (both_ways false refl p)
still_open false o p = (refl, p)

module _ {C : Type 0} where
  -- compensations and ends, and nothing else
  abbrev pub Closes : List (Slot C) → Type 0
  Closes [] = Unit {0}
  Closes (Record r ∷ ss) = (r.action ≡ TakeBack) × Closes ss
  Closes (Job e k ∷ ss) = (e ≡ End) × Closes ss
  Closes (Checkpoint c ∷ ss) = ⊥

  closes_append : (ss ts : List (Slot C)) → Closes ss → Closes ts → Closes (ss ++ ts)
  closes_append [] ts a b = b
  closes_append (Record r ∷ ss) ts a b = (a.0, closes_append ss ts a.1 b)
  closes_append (Job e k ∷ ss) ts a b = (a.0, closes_append ss ts a.1 b)
  closes_append (Checkpoint c ∷ ss) ts a b = absurd a

  -- every open job has something to take back
  abbrev Busy : Log C → Type 0
  Busy K = (i : ℕ) → is_open K i ≡ true → next K i ≡ 0 → ⊥

  -- Log M after slots that close jobs open in K
  record Closed (K : Log C) (M : Log C) : Type 0 where
    committed : (i : ℕ) → is_committed M i ≡ is_committed K i
    opened : (i : ℕ) → is_open M i ≡ true → is_open K i ≡ true
    piles : (f : ℕ → Bool) → ((i : ℕ) → is_open K i ≡ true → f i ≡ false) → (q : ℕ) → pile_by f (pile M q) ≡ pile_by f (pile K q)

  closed_more : {K M N : Log C} → Closed K M → Closed M N → Closed K N
  closed_more a b = record {
    committed = λ i. b.committed i ∙ a.committed i;
    opened = λ i o. a.opened i (b.opened i o);
    piles = λ f o q. b.piles f (λ i p. o i (a.opened i p)) q ∙ a.piles f o q;
  }

  -- the work of undo from u to v
  record Moved (u v : Undoing C) : Type 0 where
    slots : List (Slot C)
    appended : v.work.appended ≡ slots ++ u.work.appended
    log : v.work.log ≡ onto slots u.work.log
    closes : Closes slots
    closed : Closed u.work.log v.work.log

  moved_none : (u : Undoing C) → Moved u u
  moved_none u = record {
    slots = [];
    appended = refl;
    log = refl;
    closes = tt;
    closed = record { committed = λ i. refl; opened = λ i o. o; piles = λ f o q. refl };
  }

  moved_more : {u v w : Undoing C} → Moved u v → Moved v w → Moved u w
  moved_more {u = u} a b = record {
    slots = b.slots ++ a.slots;
    appended = b.appended ∙ (ap (λ y. b.slots ++ y) a.appended ∙ sym (append_assoc b.slots a.slots u.work.appended));
    log = b.log ∙ (ap (onto b.slots) a.log ∙ sym (onto_append b.slots a.slots u.work.log));
    closes = closes_append b.slots a.slots b.closes a.closes;
    closed = closed_more a.closed b.closed;
  }

module _ {C : Type 0} (m : Meaning C) (size capacity : ℕ) where
  -- what undo keeps: the table is the log's, and every copy is whole
  record Stands (u : Undoing C) : Type 0 where
    legal : Legal size capacity u.work.log
    exclusive : Exclusive u.work.log
    jobs : u.jobs ≡ open_jobs u.work.log
    many : length u.work.copies ≡ size
    copies : (p : ℕ) → copy_of u.work.copies p ≡ whole_page m u.work.log p

  -- the work goes from u on with no refusal, and then P holds of the log
  record Went (P : Log C → Type 0) (u : Undoing C) (r : Undone C) : Type 0 where
    why : r.why ≡ None
    stands : Stands r.state
    moved : Moved u r.state
    left : P r.state.work.log

  went_more : {P : Log C → Type 0} {u v : Undoing C} {r : Undone C} → Moved u v → Went P v r → Went P u r
  went_more a w = record { why = w.why; stands = w.stands; moved = moved_more a w.moved; left = w.left }

  -- there is room while a job is open
  owes : (L : Log C) (j : ℕ) → Legal size capacity L → is_open L j ≡ true → 0 < owed_by L
  owes L j h o = omega (arith, owed_closed size capacity L j End h o refl)

  has_room : (u : Undoing C) (j : ℕ) → Stands u → is_open u.work.log j ≡ true → has_slot m capacity u ≡ true
  has_room u j s o =
      let room = room_now size capacity u.work.log s.legal in
      let owe = owes u.work.log j s.legal o in
      lt-ltb _ _ (omega arith)

  -- an end
  module _ (u : Undoing C) (j : ℕ) (s : Stands u) (o : is_open u.work.log j ≡ true) (e : pending u.work.log j ≡ []) where
    abbrev K : Log C
    K = u.work.log

    end_stands : Stands (ended m j u)
    end_stands = record { legal = end_legal m size capacity K j s.legal o e; exclusive = (s.exclusive, tt); jobs = ap (without_job j) s.jobs; many = s.many; copies = s.copies }

    end_moved : Moved u (ended m j u)
    end_moved = record {
      slots = Job End j ∷ [];
      appended = refl;
      log = refl;
      closes = (refl, tt);
      closed = record { committed = λ i. rw (and_right (eqb j i) false refl) refl; opened = λ i p. (still_open (eqb j i) (is_open K i) p).1; piles = λ f p q. refl };
    }

    end_done : end_job m capacity j u ≡ goes_on m (ended m j u)
    end_done = rw (has_room u j s o) refl

    end_owes : owed_by (ended m j u).work.log < owed_by K
    end_owes = omega (arith, owed_closed size capacity K j End s.legal o refl)

  -- a compensation
  module _ (few : capacity ≤ 4096) (u : Undoing C) (j : JobEntry) (x : Numbered C) (xs : List (Numbered C)) (s : Stands u) (o : is_open u.work.log j.job ≡ true)
      (top : pending u.work.log j.job ≡ x ∷ xs) where
    abbrev v : Undoing C
    v = compensated m j x.record' u

    stepped : Back m size capacity u.work.log u.work.copies j.job x xs v.work.log v.work.copies
    stepped =
        let st = pending_at size capacity u.work.log j.job x s.legal (subst (In x) (sym top) (here refl)) in
        back m size capacity few u.work.log u.work.copies j.job x xs s.legal s.exclusive o top (s.copies x.record'.page) (omega (arith, st.inside, s.many))

    back_stands : Stands v
    back_stands = let b = stepped in record {
      legal = b.legal;
      exclusive = b.exclusive;
      jobs = ap (with_next j.job x.record'.link) s.jobs ∙ sym b.jobs;
      many = b.many ∙ s.many;
      copies = λ p. back_wholes m size capacity b p (s.copies p);
    }

    back_moved : Moved u v
    back_moved = let b = stepped in record {
      slots = Record (compensation x.record' (copy_of u.work.copies x.record'.page)) ∷ [];
      appended = refl;
      log = refl;
      closes = (refl, tt);
      closed = record { committed = b.committed; opened = λ i p. sym (b.opened i) ∙ p; piles = λ f p q. b.piles f (p j.job o) q };
    }

    -- the change is taken back, and the job is ended where it was the oldest; less is owed
    turn_true : Busy u.work.log → Went (λ M. Busy M × (owed_by M < owed_by u.work.log)) u (undo_change m capacity j u (Some x.record'))
    turn_true busy = go (eqb x.record'.link 0) refl
      where
        own : (i : ℕ) → next v.work.log i ≡ 0 → eqb j.job i ≡ true → x.record'.link ≡ 0
        own i n q = sym stepped.own_next ∙ (ap (next v.work.log) (eqb-true _ _ q) ∙ n)

        other : (i : ℕ) → is_open u.work.log i ≡ true → next v.work.log i ≡ 0 → eqb j.job i ≡ false → ⊥
        other i o n q = busy i o (sym (stepped.others_next i q) ∙ n)

        go : (t : Bool) → eqb x.record'.link 0 ≡ t → Went (λ M. Busy M × (owed_by M < owed_by u.work.log)) u (cond t (end_job m capacity j.job v) (goes_on m v))
        go true e =
            let none : pending v.work.log j.job ≡ [] = next_none size capacity v.work.log j.job back_stands.legal (stepped.own_next ∙ eqb-true _ _ e) in
            rw (end_done v j.job back_stands o none) (record {
              why = refl;
              stands = end_stands v j.job back_stands o none;
              moved = moved_more back_moved (end_moved v j.job back_stands o none);
              left = (λ i p n. let k = still_open (eqb j.job i) (is_open u.work.log i) p in other i k.1 n k.0, omega (arith, stepped.owing, end_owes v j.job back_stands o none));
            })
        go false e = record {
          why = refl;
          stands = back_stands;
          moved = back_moved;
          left = (λ i p n. ⊎_elim (λ q. eqb-false _ _ e (own i n q)) (other i p n) (cases_Bool (eqb j.job i)), omega (arith, stepped.owing));
        }

  -- The jobs with nothing to take back are ended

  -- what is known of u before the jobs of t are looked at: they are open with those nexts, and no other job is idle
  record Listed (u : Undoing C) (t : Jobs) : Type 0 where
    ascending : Ascending t
    entries : (e : JobEntry) → In e t → (is_open u.work.log e.job ≡ true) × (next u.work.log e.job ≡ e.next)
    idle : (i : ℕ) → is_open u.work.log i ≡ true → next u.work.log i ≡ 0 → is_job i t ≡ true

  idle_true : (t : Jobs) (u : Undoing C) → Stands u → Listed u t → Went Busy u (end_idle m capacity t (goes_on m u))
  idle_true [] u s l = record { why = refl; stands = s; moved = moved_none u; left = λ i o e. both_ways false refl (l.idle i o e) }
  idle_true (x ∷ xs) u s l = go (eqb x.next 0) refl (idle_true xs)
    where
      found : is_open u.work.log x.job ≡ true
      found = (l.entries x (here refl)).0

      go : (t : Bool) → eqb x.next 0 ≡ t → ((u : Undoing C) → Stands u → Listed u xs → Went Busy u (end_idle m capacity xs (goes_on m u)))
          → Went Busy u (end_idle m capacity xs (cond t (end_job m capacity x.job u) (goes_on m u)))
      go true e ih =
          let none : pending u.work.log x.job ≡ [] = next_none size capacity u.work.log x.job s.legal ((l.entries x (here refl)).1 ∙ eqb-true _ _ e) in
          let less : Listed (ended m x.job u) xs = record {
            ascending = l.ascending.1;
            entries = λ y i. let lt = above_in x.job xs y l.ascending.0 i in rw (ne_eqb x.job y.job (λ p. omega arith)) (l.entries y (there i));
            idle = λ i o n. let p = still_open (eqb x.job i) (is_open u.work.log i) o in let q = l.idle i p.1 n in (rw p.0 at q);
          } in
          rw (end_done u x.job s found none) (went_more (end_moved u x.job s found none) (ih (ended m x.job u) (end_stands u x.job s found none) less))
      go false e ih = ih u s (record {
        ascending = l.ascending.1;
        entries = λ y i. l.entries y (there i);
        idle = λ i o n. away i n (eqb x.job i) refl (l.idle i o n);
      })
        where
          away : (i : ℕ) → next u.work.log i ≡ 0 → (t : Bool) → eqb x.job i ≡ t → is_some (cond t (Some x) (find_job i xs)) ≡ true → is_job i xs ≡ true
          away i n true q p = absurd (eqb-false _ _ e (sym (l.entries x (here refl)).1 ∙ (ap (next u.work.log) (eqb-true _ _ q) ∙ n)))
          away i n false q p = p

  -- The others are taken back, the latest change first

  -- no job is open
  abbrev Empty : Log C → Type 0
  Empty M = open_jobs M ≡ []

  then_goes_on : (f : Undoing C → Undone C) (r : Undone C) → r.why ≡ None → then_undo m f r ≡ f r.state
  then_goes_on f r e = rw e refl

  all_true : capacity ≤ 4096 → (fuel : ℕ) (u : Undoing C) → Stands u → Busy u.work.log → owed_by u.work.log < fuel → Went Empty u (undo_all m capacity fuel u)
  all_true few zero u s busy lt = absurd (omega arith)
  all_true few (suc fuel) u s busy lt = go u.jobs refl (all_true few fuel)
    where
      go : (t : Jobs) → u.jobs ≡ t → ((v : Undoing C) → Stands v → Busy v.work.log → owed_by v.work.log < fuel → Went Empty v (undo_all m capacity fuel v))
          → Went Empty u (undo_latest m capacity (undo_all m capacity fuel) u (latest t))
      go [] e ih = record { why = refl; stands = s; moved = moved_none u; left = sym s.jobs ∙ e }
      go (y ∷ ys) e ih =
          let j = latest_of y (latest ys) in
          let entry = table_entry size capacity u.work.log j s.legal (subst (In j) (sym e ∙ s.jobs) (latest_in y ys)) in
          let at_next : j.next ≡ next u.work.log j.job = ap (λ k. k.next) entry.1 in
          stacked j entry.0 at_next (pending u.work.log j.job) refl
        where
          stacked : (j : JobEntry) → is_open u.work.log j.job ≡ true → j.next ≡ next u.work.log j.job → (xs : List (Numbered C)) → pending u.work.log j.job ≡ xs
              → Went Empty u (undo_latest m capacity (undo_all m capacity fuel) u (Some j))
          stacked j o n [] p = absurd (busy j.job o (next_top size capacity u.work.log j.job s.legal ∙ ap top_number p))
          stacked j o n (x ∷ xs) p =
              let t = turn_true few u j x xs s o p busy in
              let change = top_change size capacity u.work.log j.job x xs s.legal p in
              let found : change_of j.job (at u.work.log j.next) ≡ Some x.record' = ap (λ k. change_of j.job (at u.work.log k)) n ∙ change in
              let r = ih (undo_change m capacity j u (Some x.record')).state t.stands t.left.0 (omega (arith, t.left.1)) in
              rw (has_room u j.job s o, found, then_goes_on (undo_all m capacity fuel) (undo_change m capacity j u (Some x.record')) t.why) (went_more t.moved r)

  -- What undo makes of the log K with whole copies cs: it goes to the end, and no job is open
  pub record AllUndone (K : Log C) (cs : List Page) (r : Undone C) : Type 0 where
    pub why : r.why ≡ None
    pub slots : List (Slot C)
    pub appended : r.state.work.appended ≡ slots
    pub log : r.state.work.log ≡ onto slots K
    pub closes : Closes slots
    pub legal : Legal size capacity (onto slots K)
    pub exclusive : Exclusive (onto slots K)
    pub jobs : r.state.jobs ≡ []
    pub table : open_jobs (onto slots K) ≡ []
    pub opened : (i : ℕ) → is_open (onto slots K) i ≡ false
    pub committed : (i : ℕ) → is_committed (onto slots K) i ≡ is_committed K i
    pub piles : (f : ℕ → Bool) → ((i : ℕ) → is_open K i ≡ true → f i ≡ false) → (q : ℕ) → pile_by f (pile (onto slots K) q) ≡ pile_by f (pile K q)
    pub many : length r.state.work.copies ≡ length cs
    pub copies : (p : ℕ) → copy_of r.state.work.copies p ≡ whole_page m (onto slots K) p

  -- undo with what it goes by
  abbrev started : Log C → List Page → Jobs → Undoing C
  started K cs t = record { work = record { log = K; copies = cs; appended = [] }; jobs = t; compensations = 0; ends = 0 }

  finished_undone : (K : Log C) (cs : List Page) (t : Jobs) (r : Undone C) → length cs ≡ size → Went Empty (started K cs t) r → AllUndone K cs r
  finished_undone K cs t r many f =
      let is = f.moved.log in
      let none : open_jobs (onto f.moved.slots K) ≡ [] = subst (λ M. open_jobs M ≡ []) is f.left in
      let legal : Legal size capacity (onto f.moved.slots K) = subst (Legal size capacity) is f.stands.legal in
      let closed : Closed K (onto f.moved.slots K) = subst (Closed K) is f.moved.closed in
      record {
        why = f.why;
        slots = f.moved.slots;
        appended = f.moved.appended ∙ append-nil f.moved.slots;
        log = is;
        closes = f.moved.closes;
        legal = legal;
        exclusive = subst Exclusive is f.stands.exclusive;
        jobs = f.stands.jobs ∙ f.left;
        table = none;
        opened = λ i. sym (table_has size capacity (onto f.moved.slots K) i legal) ∙ ap (is_job i) none;
        committed = closed.committed;
        piles = closed.piles;
        many = f.stands.many ∙ sym many;
        copies = subst (λ M. (p : ℕ) → copy_of r.state.work.copies p ≡ whole_page m M p) is f.stands.copies;
      }

  all_undone : capacity ≤ 4096 → (K : Log C) (cs : List Page) (t : Jobs) → Legal size capacity K → Exclusive K → t ≡ open_jobs K → length cs ≡ size
      → ((p : ℕ) → copy_of cs p ≡ whole_page m K p)
      → AllUndone K cs (then_undo m (undo_all m capacity (suc capacity)) (end_idle m capacity t (goes_on m (started K cs t))))
  all_undone few K cs t h ex e many whole =
      let stands : Stands (started K cs t) = record { legal = h; exclusive = ex; jobs = e; many = many; copies = whole } in
      let listed : Listed (started K cs t) t = record {
        ascending = subst Ascending (sym e) (table_ascending size capacity K h);
        entries = λ y i. let k = table_entry size capacity K y h (subst (In y) e i) in (k.0, sym (ap (λ z. z.next) k.1));
        idle = λ i o n. ap (is_job i) e ∙ (table_has size capacity K i h ∙ o);
      } in
      let i = idle_true t (started K cs t) stands listed in
      let v = (end_idle m capacity t (goes_on m (started K cs t))).state in
      let room = room_now size capacity v.work.log i.stands.legal in
      let f = all_true few (suc capacity) v i.stands i.left (omega arith) in
      rw (then_goes_on (undo_all m capacity (suc capacity)) (end_idle m capacity t (goes_on m (started K cs t))) i.why)
      (finished_undone K cs t _ many (went_more i.moved f))

module _ {C : Type 0} (m : Meaning C) (d : Devices) (x : Working) where
  pub undo_true : Durable m d → Redone m d x → AllUndone m (size d) d.log.capacity (whole m d) x.copies (undone m d x)
  undo_true h r =
      let sizes = h.sizes in
      let few : d.log.capacity ≤ 4096 = grind (arith, nat_tests) in
      all_undone m (size d) d.log.capacity few (whole m d) x.copies x.jobs h.legal h.exclusive r.jobs r.many r.copies

  -- where no job is open nothing is done
  pub undo_idle : x.jobs ≡ [] → undone m d x ≡ goes_on m (record { work = record { log = whole m d; copies = x.copies; appended = [] }; jobs = []; compensations = 0; ends = 0 })
  undo_idle e = rw e refl
