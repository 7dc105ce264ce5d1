-- Taking a job's changes back: one compensation, and all that an abort appends. Assumes nothing.
use Rattle.std.proofs.Common.{◌≡◌, ℕ, zero, suc, ◌<◌, ◌≤◌, Bool, true, false, cond, eqb, ltb, List, [], ◌∷◌, ◌++◌, length, set, Some, None, sym, refl, ap, ◌∙◌, subst, append_assoc, arith, length-set}
use Rattle.std.proofs.lemmas.List.{get_or-set_same, get_or-set_other}
use Rattle.std.proofs.lemmas.Bool.{eqb-true, eqb-false, eq-eqb, ne_eqb, le-ltb}
use Rattle.std.proofs.lemmas.Bool.Decides.{nat_tests}
use Rattle.format.specs.declared.page.Page.{Page}
use Rattle.format.specs.declared.slot.Slot.{Slot}
use Rattle.format.specs.declared.slot.Slot.TheVariants.{Record, Job, Checkpoint}
use Rattle.format.specs.declared.slot.PageRecord.{PageRecord}
use Rattle.format.specs.declared.slot.Action.TheVariants.{TakeBack}
use Rattle.format.specs.declared.slot.JobEvent.TheVariants.{End}
use Rattle.format.specs.Changes.{Meaning}
use Rattle.format.specs.Pages.{blank_page}
use Rattle.recovery_log.specs.Log.{Log, new_number, is_open, is_committed, next, Numbered, rest, pending}
use Rattle.rules.specs.Playing.{play}
use Rattle.rules.specs.Reading.{at}
use Rattle.rules.specs.Service.{copy_of, Work, Stopped, lrc_after, change_of, compensation, finished, taken_back, all_back}
use Rattle.rules.specs.Tables.{Jobs, with_next, without_job}
use Rattle.promises.proofs.Images.{image_lrc, play_next}
use Rattle.promises.proofs.Invariants.{pile_by}
use Rattle.promises.proofs.JobLaws.{top_number, Stacked, open_old, next_top, next_none, chained, pending_at, descending, top_change}
use Rattle.promises.proofs.Legal.{count, pile, image, whole_page, open_jobs, owed_by, Legal, Recorded, Undoes, Exclusive, none_by, masked}
use Rattle.promises.proofs.Membership.{In, here, there}
use Rattle.promises.proofs.OwedLaws.{owed_back, room_back, room_closed, room_now}
use Rattle.promises.proofs.PageCounts.{count_length, masked_length}
use Rattle.promises.proofs.Piles.{leads, led, pile_top}
use Rattle.promises.proofs.Safety.{onto}

-- below the capacity an LRC has a next
pub lrc_next : (n : ℕ) → n ≤ 4096 → lrc_after n ≡ suc n
lrc_next n h = omega arith

pub without_with_next : (j n : ℕ) (t : Jobs) → without_job j (with_next j n t) ≡ without_job j t
without_with_next j n [] = refl
without_with_next j n (x ∷ xs) = let ih = without_with_next j n xs in grind (arith, nat_tests)

module _ {C : Type 0} where
  -- Logs with slots put on top, read from a slot on

  pub onto_append : (ss ts : List (Slot C)) (L : Log C) → onto (ss ++ ts) L ≡ onto ss (onto ts L)
  onto_append [] ts L = refl
  onto_append (s ∷ ss) ts L = ap (λ M. Some s ∷ M) (onto_append ss ts L)

  pub masked_more : (first : ℕ) (s : Slot C) (L : Log C) → first ≤ new_number L → masked first (Some s ∷ L) ≡ Some s ∷ masked first L
  masked_more first s L h = rw (le-ltb (new_number L) first h) refl

  pub at_masked : (first n : ℕ) (L : Log C) → first ≤ n → at (masked first L) n ≡ at L n
  at_masked first n [] h = refl
  at_masked first n (s ∷ L) h = go (eqb n (new_number L)) refl (at_masked first n L h)
    where
      go : (t : Bool) → eqb n (new_number L) ≡ t → at (masked first L) n ≡ at L n
          → cond (eqb n (suc (length (masked first L)))) (cond (ltb (new_number L) first) None s) (at (masked first L) n) ≡ cond t s (at L n)
      go true e ih = let is = eqb-true n (new_number L) e in rw (masked_length first L, e, le-ltb (new_number L) first (omega arith)) refl
      go false e ih = rw (masked_length first L, e) ih

  -- Piles

  -- a job that leads a list which another begins has nothing in it
  led_none : (k : ℕ) (x : Numbered C) (xs ys : List (Numbered C)) → ys ≡ x ∷ xs → leads k ys ≡ true → eqb x.record'.job k ≡ false → none_by k ys ≡ true
  led_none k x xs ys e l o = let l' : leads k (x ∷ xs) ≡ true = rw e at l in let n : none_by k xs ≡ true = rw o at l' in rw (e, o) n

  -- a test that fails for the newest does not see it
  pile_less : (f : ℕ → Bool) (x : Numbered C) (xs ys : List (Numbered C)) → ys ≡ x ∷ xs → f x.record'.job ≡ false → pile_by f xs ≡ pile_by f ys
  pile_less f x xs ys e o = rw (e, o) refl

  -- the log with the compensation of a change, made from a copy of its page
  abbrev pub undone_by : PageRecord C → List Page → Log C → Log C
  undone_by r cs K = Some (Record (compensation r (copy_of cs r.page))) ∷ K

module _ {C : Type 0} (m : Meaning C) (size capacity : ℕ) where
  -- Log M and copies ds after a compensation of the job's newest pending change x, with xs below it
  pub record Back (K : Log C) (cs : List Page) (j : ℕ) (x : Numbered C) (xs : List (Numbered C)) (M : Log C) (ds : List Page) : Type 0 where
    pub by : x.record'.job ≡ j
    pub legal : Legal size capacity M
    pub exclusive : Exclusive M
    pub longer : length M ≡ suc (length K)
    pub owing : suc (owed_by M) ≡ owed_by K
    pub jobs : open_jobs M ≡ with_next j x.record'.link (open_jobs K)
    pub opened : (i : ℕ) → is_open M i ≡ is_open K i
    pub committed : (i : ℕ) → is_committed M i ≡ is_committed K i
    pub own : pending M j ≡ xs
    pub others : (i : ℕ) → eqb j i ≡ false → pending M i ≡ pending K i
    pub own_next : next M j ≡ x.record'.link
    pub others_next : (i : ℕ) → eqb j i ≡ false → next M i ≡ next K i
    pub piles : (f : ℕ → Bool) → f j ≡ false → (q : ℕ) → pile_by f (pile M q) ≡ pile_by f (pile K q)
    pub counted : count M x.record'.page ≡ suc (count K x.record'.page)
    pub counts : (q : ℕ) → eqb x.record'.page q ≡ false → count M q ≡ count K q
    pub images : (q k : ℕ) → eqb x.record'.page q ≡ false → image m M q k ≡ image m K q k
    pub many : length ds ≡ length cs
    pub copied : copy_of ds x.record'.page ≡ whole_page m M x.record'.page
    pub copies : (q : ℕ) → eqb x.record'.page q ≡ false → copy_of ds q ≡ copy_of cs q

  module _ (few : capacity ≤ 4096) (K : Log C) (cs : List Page) (j : ℕ) (x : Numbered C) (xs : List (Numbered C)) (h : Legal size capacity K) (ex : Exclusive K)
      (o : is_open K j ≡ true) (top : pending K j ≡ x ∷ xs) (whole : copy_of cs x.record'.page ≡ whole_page m K x.record'.page) (inside : x.record'.page < length cs) where
    abbrev place : ℕ
    place = x.record'.page

    abbrev made : PageRecord C
    made = compensation x.record' (copy_of cs x.record'.page)

    abbrev grown : Log C
    grown = undone_by x.record' cs K

    stacked : Stacked size K j x
    stacked = pending_at size capacity K j x h (subst (In x) (sym top) (here refl))

    numbered : made.lrc ≡ suc (count K place)
    numbered =
        let l = count_length K place in
        let room = room_now size capacity K h in
        ap (λ y. lrc_after y.lrc) whole ∙ (ap lrc_after (image_lrc size capacity m K place (count K place) h (omega arith)) ∙ lrc_next (count K place) (omega arith))

    undoes : Undoes K made
    undoes = record { top = x; below = xs; stack = ap (pending K) stacked.own ∙ top; page = refl; change = refl; link = refl }

    opened : is_open K made.job ≡ true
    opened = rw stacked.own o

    recorded : Recorded size K made
    recorded = record { opened = opened; inside = stacked.inside; numbered = numbered; follows = undoes }

    legal : Legal size capacity grown
    legal = (h, recorded, room_back size capacity K made h opened refl undoes (room_now size capacity K h))

    topped : pile K place ≡ x ∷ rest (pile K place)
    topped = pile_top size capacity K j x xs h ex o top

    exclusive : Exclusive grown
    exclusive = (ex, λ i open-i other. led_none i x (rest (pile K place)) (pile K place) topped (led size capacity K i place h ex open-i) (ne_eqb _ _ (λ e. eqb-false _ _ other (sym e))))

    piles : (f : ℕ → Bool) → f j ≡ false → (q : ℕ) → pile_by f (pile grown q) ≡ pile_by f (pile K q)
    piles f e q = go (eqb place q) refl
      where
        go : (t : Bool) → eqb place q ≡ t → pile_by f (cond t (rest (pile K q)) (pile K q)) ≡ pile_by f (pile K q)
        go true s = subst (λ y. pile_by f (rest (pile K y)) ≡ pile_by f (pile K y)) (eqb-true place q s) (pile_less f x (rest (pile K place)) (pile K place) topped (rw stacked.own e))
        go false s = refl

    pub back : Back K cs j x xs grown (set cs place (play m made (copy_of cs place)))
    back =
        let same : eqb made.job j ≡ true = eq-eqb _ _ stacked.own in
        let page : eqb place place ≡ true = eq-eqb place place refl in
        record {
          by = stacked.own;
          legal = legal;
          exclusive = exclusive;
          longer = refl;
          owing = owed_back size capacity K made h opened refl undoes;
          jobs = rw stacked.own refl;
          opened = λ i. refl;
          committed = λ i. refl;
          own = rw (same, top) refl;
          others = λ i e. rw (stacked.own, e) refl;
          own_next = rw same refl;
          others_next = λ i e. rw (stacked.own, e) refl;
          piles = piles;
          counted = rw page refl;
          counts = λ q e. rw e refl;
          images = λ q k e. rw e refl;
          many = length-set cs place _;
          copied = get_or-set_same cs place _ blank_page inside ∙ (ap (play m made) whole ∙ play_next size capacity m K made h recorded);
          copies = λ q e. get_or-set_other cs place q _ blank_page (λ s. eqb-false place q e (sym s));
        }

-- All changes of a job

module _ {C : Type 0} where
  -- compensations of the job, and nothing else
  abbrev pub Backs : ℕ → List (Slot C) → Type 0
  Backs j [] = Unit {0}
  Backs j (Record r ∷ ss) = (r.job ≡ j) × (r.action ≡ TakeBack) × Backs j ss
  Backs j (Job e k ∷ ss) = ⊥
  Backs j (Checkpoint c ∷ ss) = ⊥

  backs_more : (j : ℕ) (ss : List (Slot C)) (r : PageRecord C) → Backs j ss → r.job ≡ j → r.action ≡ TakeBack → Backs j (ss ++ Record r ∷ [])
  backs_more j [] r b o a = (o, a, tt)
  backs_more j (Record x ∷ ss) r b o a = (b.0, b.1, backs_more j ss r b.2 o a)
  backs_more j (Job e k ∷ ss) r b o a = absurd b
  backs_more j (Checkpoint c ∷ ss) r b o a = absurd b

  -- the job has no pending change on the page
  abbrev pub Spared : Log C → ℕ → ℕ → Type 0
  Spared K j q = (x : Numbered C) → In x (pending K j) → x.record'.page ≡ q → ⊥

module _ {C : Type 0} (m : Meaning C) (size capacity : ℕ) where
  -- Log M and copies ds after all pending changes of the job are taken back
  pub record Taken (K : Log C) (cs : List Page) (j : ℕ) (M : Log C) (ds : List Page) : Type 0 where
    pub legal : Legal size capacity M
    pub exclusive : Exclusive M
    pub jobs : without_job j (open_jobs M) ≡ without_job j (open_jobs K)
    pub opened : (i : ℕ) → is_open M i ≡ is_open K i
    pub committed : (i : ℕ) → is_committed M i ≡ is_committed K i
    pub own : pending M j ≡ []
    pub others : (i : ℕ) → eqb j i ≡ false → pending M i ≡ pending K i
    pub piles : (f : ℕ → Bool) → f j ≡ false → (q : ℕ) → pile_by f (pile M q) ≡ pile_by f (pile K q)
    pub counts : (q : ℕ) → Spared K j q → count M q ≡ count K q
    pub images : (q k : ℕ) → Spared K j q → image m M q k ≡ image m K q k
    pub many : length ds ≡ length cs
    pub wholes : (q : ℕ) → copy_of cs q ≡ whole_page m K q → copy_of ds q ≡ whole_page m M q
    pub copies : (q : ℕ) → Spared K j q → copy_of ds q ≡ copy_of cs q

  taken_none : (K : Log C) (cs : List Page) (j : ℕ) → Legal size capacity K → Exclusive K → pending K j ≡ [] → Taken K cs j K cs
  taken_none K cs j h ex e = record {
    legal = h;
    exclusive = ex;
    jobs = refl;
    opened = λ i. refl;
    committed = λ i. refl;
    own = e;
    others = λ i o. refl;
    piles = λ f o q. refl;
    counts = λ q o. refl;
    images = λ q k o. refl;
    many = refl;
    wholes = λ q o. o;
    copies = λ q o. refl;
  }

  module _ {K : Log C} {cs : List Page} {j : ℕ} {x : Numbered C} {xs : List (Numbered C)} {M : Log C} {ds : List Page} (b : Back m size capacity K cs j x xs M ds) where
    -- a whole copy stays whole
    pub back_wholes : (q : ℕ) → copy_of cs q ≡ whole_page m K q → copy_of ds q ≡ whole_page m M q
    back_wholes q e = go (eqb x.record'.page q) refl
      where
        go : (t : Bool) → eqb x.record'.page q ≡ t → copy_of ds q ≡ whole_page m M q
        go true s = subst (λ y. copy_of ds y ≡ whole_page m M y) (eqb-true _ _ s) b.copied
        go false s = b.copies q s ∙ (e ∙ (sym (b.images q (count K q) s) ∙ ap (image m M q) (sym (b.counts q s))))

    taken_more : {N : Log C} {es : List Page} → pending K j ≡ x ∷ xs → Taken M ds j N es → Taken K cs j N es
    taken_more top t =
        let less : (q : ℕ) → Spared K j q → Spared M j q = λ q o y i. o y (subst (In y) (sym top) (there (subst (In y) b.own i))) in
        let off : (q : ℕ) → Spared K j q → eqb x.record'.page q ≡ false = λ q o. ne_eqb _ _ (o x (subst (In x) (sym top) (here refl))) in
        record {
          legal = t.legal;
          exclusive = t.exclusive;
          jobs = t.jobs ∙ (ap (without_job j) b.jobs ∙ without_with_next j x.record'.link (open_jobs K));
          opened = λ i. t.opened i ∙ b.opened i;
          committed = λ i. t.committed i ∙ b.committed i;
          own = t.own;
          others = λ i o. t.others i o ∙ b.others i o;
          piles = λ f o q. t.piles f o q ∙ b.piles f o q;
          counts = λ q o. t.counts q (less q o) ∙ b.counts q (off q o);
          images = λ q k o. t.images q k (less q o) ∙ b.images q k (off q o);
          many = t.many ∙ b.many;
          wholes = λ q e. t.wholes q (back_wholes q e);
          copies = λ q o. t.copies q (less q o) ∙ b.copies q (off q o);
        }

  -- a job with nothing pending may end
  pub end_legal : (M : Log C) (j : ℕ) → Legal size capacity M → is_open M j ≡ true → pending M j ≡ [] → Legal size capacity (Some (Job End j) ∷ M)
  end_legal M j h o e = (h, record { opened = o; nothing = e }, room_closed size capacity M j End h o refl (room_now size capacity M h))

  -- What an abort's loop makes of its work on the log K, read from `first` on: it goes to the end
  pub record Aborted (first j : ℕ) (K : Log C) (k : Work C) (s : Stopped C) : Type 0 where
    pub why : s.why ≡ None
    pub slots : List (Slot C)
    pub appended : s.work.appended ≡ slots ++ k.appended
    pub log : s.work.log ≡ masked first (onto slots K)
    pub backs : Backs j slots
    pub taken : Taken K k.copies j (onto slots K) s.work.copies

  -- the pages of the job's pending changes have whole copies
  abbrev pub Wholes : Log C → ℕ → List Page → Type 0
  Wholes K j cs = (x : Numbered C) → In x (pending K j) → (copy_of cs x.record'.page ≡ whole_page m K x.record'.page) × (x.record'.page < length cs)

  link_lower : (K : Log C) (j : ℕ) (x : Numbered C) (xs : List (Numbered C)) → Legal size capacity K → pending K j ≡ x ∷ xs → x.record'.link < x.number
  link_lower K j x [] h top =
      let k = pending_at size capacity K j x h (subst (In x) (sym top) (here refl)) in
      omega (arith, chained size capacity K j x [] h top)
  link_lower K j x (y ∷ ys) h top = omega (arith, chained size capacity K j x (y ∷ ys) h top, descending size capacity K j x y (y ∷ ys) h top (here refl))

  module _ (few : capacity ≤ 4096) (first j : ℕ) (young : first ≤ j) where
    aborted_none : (K : Log C) (k : Work C) → k.log ≡ masked first K → Legal size capacity K → Exclusive K → pending K j ≡ [] → Aborted first j K k (finished k)
    aborted_none K k e h ex p = record { why = refl; slots = []; appended = refl; log = e; backs = tt; taken = taken_none K k.copies j h ex p }

    aborted_more : (K : Log C) (k : Work C) (x : Numbered C) (xs : List (Numbered C)) (s : Stopped C)
        → Back m size capacity K k.copies j x xs (undone_by x.record' k.copies K) (taken_back m x.record' k).copies → pending K j ≡ x ∷ xs
        → Aborted first j (undone_by x.record' k.copies K) (taken_back m x.record' k) s → Aborted first j K k s
    aborted_more K k x xs s b top a =
        let c = compensation x.record' (copy_of k.copies x.record'.page) in
        let same = onto_append a.slots (Record c ∷ []) K in
        record {
          why = a.why;
          slots = a.slots ++ Record c ∷ [];
          appended = a.appended ∙ sym (append_assoc a.slots (Record c ∷ []) k.appended);
          log = a.log ∙ ap (masked first) (sym same);
          backs = backs_more j a.slots c a.backs b.by refl;
          taken = subst (λ N. Taken K k.copies j N s.work.copies) (sym same) (taken_more b top a.taken);
        }

    -- the newest change is found, and what remains after it is ready
    found_masked : (n : ℕ) (K L : Log C) (x : Numbered C) (xs : List (Numbered C)) → n ≡ next K j → L ≡ masked first K → Legal size capacity K → pending K j ≡ x ∷ xs
        → change_of j (at L n) ≡ Some x.record'
    found_masked n K L x xs e l h top =
        let st = pending_at size capacity K j x h (subst (In x) (sym top) (here refl)) in
        let is : next K j ≡ x.number = next_top size capacity K j h ∙ ap top_number top in
        rw (l, e) (ap (change_of j) (at_masked first (next K j) K (omega arith)) ∙ top_change size capacity K j x xs h top)

    wholes_more : {K : Log C} {cs : List Page} {x : Numbered C} {xs : List (Numbered C)} {M : Log C} {ds : List Page} → Back m size capacity K cs j x xs M ds
        → pending K j ≡ x ∷ xs → Wholes K j cs → Wholes M j ds
    wholes_more b top w y i =
        let v = w y (subst (In y) (sym top) (there (subst (In y) b.own i))) in
        (back_wholes b y.record'.page v.0, omega (arith, v.1, b.many))

    pub abort_true : (fuel n : ℕ) (K : Log C) (k : Work C) → n ≡ next K j → n ≤ fuel → k.log ≡ masked first K → Legal size capacity K → Exclusive K → is_open K j ≡ true
        → Wholes K j k.copies → Aborted first j K k (all_back m fuel j n k)
    abort_true zero n K k e le l h ex o w = aborted_none K k l h ex (next_none size capacity K j h (omega arith))
    abort_true (suc fuel) n K k e le l h ex o w = go (pending K j) refl (abort_true fuel)
      where
        go : (xs : List (Numbered C)) → pending K j ≡ xs
            → ((n : ℕ) (K : Log C) (k : Work C) → n ≡ next K j → n ≤ fuel → k.log ≡ masked first K → Legal size capacity K → Exclusive K → is_open K j ≡ true
            → Wholes K j k.copies → Aborted first j K k (all_back m fuel j n k))
            → Aborted first j K k (all_back m (suc fuel) j n k)
        go [] p ih = rw (eq-eqb n 0 (e ∙ (next_top size capacity K j h ∙ ap top_number p))) (aborted_none K k l h ex p)
        go (x ∷ xs) p ih =
            let i : In x (pending K j) = subst (In x) (sym p) (here refl) in
            let st = pending_at size capacity K j x h i in
            let n-is : n ≡ x.number = e ∙ (next_top size capacity K j h ∙ ap top_number p) in
            let b = back m size capacity few K k.copies j x xs h ex o p (w x i).0 (w x i).1 in
            let lower = link_lower K j x xs h p in
            let old = open_old size capacity K j h o in
            let log = ap (undone_by x.record' k.copies) l ∙ sym (masked_more first _ K (omega arith)) in
            rw (ne_eqb n 0 (λ z. omega arith), found_masked n K k.log x xs e l h p)
            (aborted_more K k x xs _ b p (ih x.record'.link _ (taken_back m x.record' k) (sym b.own_next) (omega arith) log b.legal b.exclusive o (wholes_more b p w)))

  -- with the end of the job on top
  module _ {first j : ℕ} {K : Log C} {k : Work C} {s : Stopped C} (o : is_open K j ≡ true) (a : Aborted first j K k s) where
    pub aborted_legal : Legal size capacity (onto (Job End j ∷ a.slots) K)
    aborted_legal = end_legal (onto a.slots K) j a.taken.legal (a.taken.opened j ∙ o) a.taken.own

    pub aborted_exclusive : Exclusive (onto (Job End j ∷ a.slots) K)
    aborted_exclusive = (a.taken.exclusive, tt)

    pub aborted_jobs : open_jobs (onto (Job End j ∷ a.slots) K) ≡ without_job j (open_jobs K)
    aborted_jobs = a.taken.jobs
