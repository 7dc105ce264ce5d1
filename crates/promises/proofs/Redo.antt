-- Redo never refuses after analysis, makes every copy its page with all its records, and does so whichever true tables were found. Assumes nothing.
use Rattle.std.proofs.Common.{◌≡◌, ℕ, zero, suc, pred, ◌<◌, ◌≤◌, min, max, Bool, true, false, cond, eqb, ltb, leb, List, [], ◌∷◌, map, length, set, replicate, Some, None, Ok, Option, unwrap_or, sym, refl, ap, ◌∙◌, subst, ⊎_elim, arith}
use Rattle.std.specs.Option.{option_map}
use Rattle.std.proofs.lemmas.List.{length-set, get_or-set_same, get_or-set_other, get_or-map, get_or_past, length-map}
use Rattle.std.proofs.lemmas.Bool.{eqb-true, eqb-false, eq-eqb, ne_eqb, ltb-true, ltb-false, lt-ltb, le-ltb, le-leb, leb-false, cases_lt, and_from, and_right}
use Rattle.format.specs.declared.page.Page.{Page}
use Rattle.format.specs.declared.slot.Slot.{Slot}
use Rattle.format.specs.declared.slot.Slot.TheVariants.{Record, Job, Checkpoint}
use Rattle.format.specs.declared.slot.PageRecord.{PageRecord}
use Rattle.format.specs.Changes.{Meaning}
use Rattle.format.specs.Pages.{page_of, blank_page}
use Rattle.recovery_log.specs.Log.{Log, new_number}
use Rattle.rules.specs.declared.table.DirtyPage.{DirtyPage}
use Rattle.rules.specs.Playing.{play}
use Rattle.rules.specs.Reading.{up_to, scan, last_end}
use Rattle.rules.specs.Plans.{powered_on}
use Rattle.rules.specs.Restart.{Replay, is_due, none_ahead, whole, found_in, replay, replayed, stored_pages}
use Rattle.rules.specs.Runs.{blank}
use Rattle.rules.specs.Service.{copy_of}
use Rattle.rules.specs.State.{Devices, Found, Working, size, slots, log_length}
use Rattle.rules.specs.Tables.{Dirty, find_page, least_from, least_start}
use Rattle.promises.proofs.Legal.{count, image, whole_page, Legal, Recorded, Older, same}
use Rattle.promises.proofs.Invariants.{start_of, Positive, Covers, stored, stored_lrcs, Durable, Analysed, First, Redone}
use Rattle.promises.proofs.Membership.{In, here, there}
use Rattle.promises.proofs.Cuts.{legal_older}
use Rattle.promises.proofs.Analysis.{older_length, before_older, older_tail}
use Rattle.promises.proofs.PageCounts.{count_length, count_older, count_up_to, up_to_older}
use Rattle.promises.proofs.Images.{image_older, image_lrc, play_next}
use Rattle.promises.proofs.Decoded.{whole_length}

-- Where redo starts

least_below : (n : ℕ) (xs : Dirty) → least_from n xs ≤ n
least_below n [] = omega arith
least_below n (x ∷ xs) = omega (arith, least_below (min n x.start) xs)

least_from_below : (n : ℕ) (xs : Dirty) (e : DirtyPage) → In e xs → least_from n xs ≤ e.start
least_from_below n (x ∷ xs) e (here i) = subst (λ (y : DirtyPage). least_from n (x ∷ xs) ≤ y.start) (sym i) (omega (arith, least_below (min n x.start) xs))
least_from_below n (x ∷ xs) e (there i) = least_from_below (min n x.start) xs e i
least_from_below n [] e i = elim i [ ]

least_positive : (n : ℕ) (xs : Dirty) → 1 ≤ n → Positive xs → 1 ≤ least_from n xs
least_positive n [] le h = le
least_positive n (x ∷ xs) le h = let k = h x (here refl) in least_positive (min n x.start) xs (omega arith) (λ e i. h e (there i))

-- it is at most every page's start, and 0 only where no page is dirty
least_start_below : (dirty : Dirty) (e : DirtyPage) → In e dirty → least_start dirty ≤ e.start
least_start_below [] e i = elim i [ ]
least_start_below (x ∷ xs) e (here i) = subst (λ (y : DirtyPage). least_from x.start xs ≤ y.start) (sym i) (least_below x.start xs)
least_start_below (x ∷ xs) e (there i) = least_from_below x.start xs e i

find_in : (p : ℕ) (dirty : Dirty) (e : DirtyPage) → find_page p dirty ≡ Some e → In e dirty
find_in p [] e q = let z : ◌≡◌ {A = ℕ} 0 1 = cc in absurd (omega arith)
find_in p (x ∷ xs) e q = go (eqb x.page p) q (find_in p xs e)
  where
    go : (t : Bool) → cond t (Some x) (find_page p xs) ≡ Some e → (find_page p xs ≡ Some e → In e xs) → In e (x ∷ xs)
    go true f more' = here (cc)
    go false f more' = there (more' f)

-- before the least start, or n where no page is dirty, every page's start comes
start_after : (p n k : ℕ) (dirty : Dirty) → k ≤ n → ((e : DirtyPage) → In e dirty → k ≤ e.start) → k ≤ start_of p dirty n
start_after p n k dirty le h = go (find_page p dirty) refl
  where
    go : (o : Option DirtyPage) → find_page p dirty ≡ o → k ≤ unwrap_or (option_map (λ e. e.start) o) n
    go None e = le
    go (Some x) e = h x (find_in p dirty x e)

set_each : (P : ℕ → Page → Type 0) (xs : List Page) (i : ℕ) (x : Page) → i < length xs → ((q : ℕ) → eqb i q ≡ false → P q (copy_of xs q)) → P i x → (q : ℕ) → P q (copy_of (set xs i x) q)
set_each P xs i x lt old new q = go (eqb i q) refl
  where
    go : (t : Bool) → eqb i q ≡ t → P q (copy_of (set xs i x) q)
    go true e = subst (λ k. P k (copy_of (set xs i x) k)) (eqb-true i q e) (rw (get_or-set_same xs i x blank_page lt) new)
    go false e = rw (get_or-set_other xs i q x blank_page (λ z. eqb-false i q e (sym z))) (old q e)

-- a slot that is not due stands before its page's start
not_due : (p n k : ℕ) (dirty : Dirty) → n < k → is_due p n dirty ≡ false → n < start_of p dirty k
not_due p n k dirty lt e = go (find_page p dirty) e
  where
    go : (o : Option DirtyPage) → unwrap_or (option_map (λ x. leb x.start n) o) false ≡ false → n < unwrap_or (option_map (λ x. x.start) o) k
    go None f = lt
    go (Some x) f = leb-false x.start n f

-- Playing the log W on copies of the LRCs c, which lack nothing before the starts of their pages
module _ {C : Type 0} (size capacity : ℕ) (m : Meaning C) (W : Log C) (dirty : Dirty) (c : ℕ → ℕ) where
  -- after the part M: each copy has what it had and what stands in M
  record ReplayedTo (first : Replay) (M : Log C) : Type 0 where
    pub last : Replay
    pub reads : scan (least_start dirty) (replay m dirty) first M ≡ Ok last
    pub many : length last.copies ≡ size
    pub copies : (p : ℕ) → copy_of last.copies p ≡ image m W p (max (c p) (count M p))

  module _ (legal : Legal size capacity W) (within : (p : ℕ) → c p ≤ count W p) (covers : Covers c dirty (new_number W) W) (first : Replay) where
    covered : (M : Log C) (p : ℕ) → Older M W → length M < start_of p dirty (new_number W) → count M p ≤ c p
    covered M p o lt =
        let k = count_up_to (length M) (pred (start_of p dirty (new_number W))) W p (omega arith) in
        let e = ap (λ N. count N p) (before_older M W o) in
        omega (arith, covers p)

    step : (s : Option (Slot C)) (M : Log C) → least_start dirty ≤ new_number M → (x : ReplayedTo first M) (y : Replay) → replay m dirty (new_number M) s x.last ≡ Ok y
        → scan (least_start dirty) (replay m dirty) first (s ∷ M) ≡ Ok y
    step s M le x y e = rw (le-ltb (new_number M) (least_start dirty) le, x.reads) e

    module _ (r : PageRecord C) (M : Log C) (le : least_start dirty ≤ new_number M) (o : Older (Some (Record r) ∷ M) W) (own : Recorded size M r) (x : ReplayedTo first M) where
      abbrev copy : Page
      copy = copy_of x.last.copies r.page

      own_count : count (Some (Record r) ∷ M) r.page ≡ suc (count M r.page)
      own_count = rw (eq-eqb r.page r.page refl)

      below : suc (count M r.page) ≤ count W r.page
      below = omega (arith, own_count, count_older (Some (Record r) ∷ M) W r.page o)

      copy_lrc : copy.lrc ≡ max (c r.page) (count M r.page)
      copy_lrc = ap (λ (y : Page). y.lrc) (x.copies r.page) ∙ image_lrc size capacity m W r.page _ legal (omega (arith, below, within r.page))

      no_gap : leb r.lrc (suc copy.lrc) ≡ true
      no_gap = le-leb _ _ (omega (arith, copy_lrc, own.numbered))

      other_page : (q : ℕ) → eqb r.page q ≡ false → count (Some (Record r) ∷ M) q ≡ count M q
      other_page q e = rw e

      -- the copy has the record
      has_it : r.lrc ≤ copy.lrc → ReplayedTo first (Some (Record r) ∷ M)
      has_it old = record {
        last = x.last;
        reads = step (Some (Record r)) M le x x.last (rw (no_gap, and_right (is_due r.page (new_number M) dirty) (ltb copy.lrc r.lrc) (le-ltb _ _ old)));
        many = x.many;
        copies = λ q. x.copies q ∙ ap (image m W q) (same_top q (eqb r.page q) refl);
      }
        where
          same_top : (q : ℕ) (t : Bool) → eqb r.page q ≡ t → max (c q) (count M q) ≡ max (c q) (count (Some (Record r) ∷ M) q)
          same_top q true e = subst (λ k. max (c k) (count M k) ≡ max (c k) (count (Some (Record r) ∷ M) k)) (eqb-true _ _ e) (omega (arith, own_count, copy_lrc, own.numbered))
          same_top q false e = ap (max (c q)) (sym (other_page q e))

      -- the copy lacks the record, which is due
      lacks_it : copy.lrc < r.lrc → ReplayedTo first (Some (Record r) ∷ M)
      lacks_it new = record {
        last = now;
        reads = step (Some (Record r)) M le x now (rw (no_gap, due (is_due r.page (new_number M) dirty) refl, lt-ltb _ _ new));
        many = length-set x.last.copies r.page (play m r copy) ∙ x.many;
        copies = set_each (λ q y. y ≡ image m W q (max (c q) (count (Some (Record r) ∷ M) q))) x.last.copies r.page (play m r copy) (omega (arith, own.inside, x.many))
            (λ q e. x.copies q ∙ ap (λ k. image m W q (max (c q) k)) (sym (other_page q e))) played_now;
      }
        where
          now : Replay
          now = record { copies = set x.last.copies r.page (play m r copy); count = suc x.last.count }

          top : max (c r.page) (count M r.page) ≡ count M r.page
          top = omega (arith, copy_lrc, own.numbered)

          due : (t : Bool) → is_due r.page (new_number M) dirty ≡ t → is_due r.page (new_number M) dirty ≡ true
          due true e = e
          due false e =
              let k = covered (Some (Record r) ∷ M) r.page o (not_due r.page (new_number M) (new_number W) dirty (omega (arith, older_length (Some (Record r) ∷ M) W o)) e) in
              absurd (omega (arith, own_count, top))

          played_now : play m r copy ≡ image m W r.page (max (c r.page) (count (Some (Record r) ∷ M) r.page))
          played_now =
              ap (play m r) (x.copies r.page ∙ ap (image m W r.page) top ∙ image_older size capacity m M W r.page _ part legal (omega arith))
              ∙ play_next size capacity m M r (legal_older size capacity part legal) own
              ∙ sym (image_older size capacity m (Some (Record r) ∷ M) W r.page _ o legal (omega arith))
              ∙ ap (image m W r.page) (omega (arith, own_count, top))
            where
              part : Older M W
              part = older_tail (Some (Record r)) M W o

      replay_next : ReplayedTo first (Some (Record r) ∷ M)
      replay_next = ⊎_elim lacks_it has_it (cases_lt copy.lrc r.lrc)

    -- no copy changes in a slot that is no record
    replay_skip : (s : Option (Slot C)) (M : Log C) → least_start dirty ≤ new_number M → (x : ReplayedTo first M) → replay m dirty (new_number M) s x.last ≡ Ok x.last
        → ((p : ℕ) → count (s ∷ M) p ≡ count M p) → ReplayedTo first (s ∷ M)
    replay_skip s M le x e none = record {
      last = x.last;
      reads = step s M le x x.last e;
      many = x.many;
      copies = λ p. x.copies p ∙ ap (λ k. image m W p (max (c p) k)) (sym (none p));
    }

    module _ (many : length first.copies ≡ size) (copies : (p : ℕ) → copy_of first.copies p ≡ image m W p (c p)) where
      replay_none : (M : Log C) → ((p : ℕ) → count M p ≤ c p) → scan (least_start dirty) (replay m dirty) first M ≡ Ok first → ReplayedTo first M
      replay_none M old e = record { last = first; reads = e; many = many; copies = λ p. copies p ∙ ap (image m W p) (omega (arith, old p)) }

      replay_all : (M : Log C) → Older M W → Legal size capacity M → ReplayedTo first M
      replay_all [] o h = replay_none [] (λ p. omega arith) refl
      replay_all (s ∷ M) o h = go (ltb (new_number M) (least_start dirty)) refl s o h (replay_all M (older_tail s M W o) h.0)
        where
          go : (t : Bool) → ltb (new_number M) (least_start dirty) ≡ t → (s : Option (Slot C)) → Older (s ∷ M) W → Legal size capacity (s ∷ M) → ReplayedTo first M → ReplayedTo first (s ∷ M)
          go true e s o h x = replay_none (s ∷ M) (λ p. covered (s ∷ M) p o (early p)) (rw e)
            where
              early : (p : ℕ) → length (s ∷ M) < start_of p dirty (new_number W)
              early p = start_after p (new_number W) (new_number (s ∷ M)) dirty (omega (arith, older_length (s ∷ M) W o))
                  (λ y i. omega (arith, ltb-true _ _ e, least_start_below dirty y i))
          go false e None o h x = absurd h.1
          go false e (Some (Record r)) o h x = replay_next r M (ltb-false _ _ e) o h.1 x
          go false e (Some (Job v j)) o h x = replay_skip (Some (Job v j)) M (ltb-false _ _ e) x refl (λ p. refl)
          go false e (Some (Checkpoint k)) o h x = replay_skip (Some (Checkpoint k)) M (ltb-false _ _ e) x refl (λ p. refl)

-- 16 never says no where no copy is ahead
none_ahead_all : (n : ℕ) (cs : List Page) → ((p : ℕ) → (copy_of cs p).lrc ≤ n) → none_ahead n cs ≡ true
none_ahead_all n [] h = refl
none_ahead_all n (c ∷ cs) h = and_from _ _ (le-leb c.lrc n (h 0)) (none_ahead_all n cs (λ p. h (suc p)))

module _ {C : Type 0} (m : Meaning C) where
  -- The stored pages as copies

  pub stored_copy : (d : Devices) (p : ℕ) → copy_of (stored_pages m d) p ≡ stored m d p
  stored_copy d p = ⊎_elim inside beyond (cases_lt p (length d.pages.pages))
    where
      inside : p < length d.pages.pages → copy_of (stored_pages m d) p ≡ stored m d p
      inside lt = get_or-map page_of d.pages.pages p (replicate 256 0) blank_page lt

      beyond : length d.pages.pages ≤ p → copy_of (stored_pages m d) p ≡ stored m d p
      beyond le = get_or_past (stored_pages m d) p blank_page (rw (length-map d.pages.pages page_of) le)
          ∙ ap page_of (sym (get_or_past d.pages.pages p (replicate 256 0) le))

  -- what is stored is in the log
  stored_within : (d : Devices) → Durable m d → (p : ℕ) → stored_lrcs m d p ≤ count (whole m d) p
  stored_within d h p = omega (arith, h.ahead p, count_older (up_to d.log.forced (whole m d)) (whole m d) p (up_to_older d.log.forced (whole m d)))

  pub none_ahead_true : (d : Devices) → Durable m d → none_ahead (log_length d) (stored_pages m d) ≡ true
  none_ahead_true d h = none_ahead_all (log_length d) (stored_pages m d) (λ p. rw (stored_copy d p) (omega (arith, stored_within d h p, count_length (whole m d) p, whole_length m d)))

  -- Redo

  pub record ReplayedTrue (d : Devices) (dirty : Dirty) : Type 0 where
    pub res : Replay
    pub replays : replayed m d dirty (stored_pages m d) ≡ Ok res
    pub many : length res.copies ≡ size d
    pub copies : (p : ℕ) → copy_of res.copies p ≡ whole_page m (whole m d) p

  replay_true : (d : Devices) (dirty : Dirty) → Durable m d → Covers (stored_lrcs m d) dirty (new_number (whole m d)) (whole m d) → Positive dirty → ReplayedTrue d dirty
  replay_true d dirty h covers positive = go dirty covers positive
    where
      W : Log C
      W = whole m d

      first : Replay
      first = record { copies = stored_pages m d; count = 0 }

      many : length (stored_pages m d) ≡ size d
      many = length-map d.pages.pages page_of

      copies : (p : ℕ) → copy_of (stored_pages m d) p ≡ image m W p (stored_lrcs m d p)
      copies p = stored_copy d p ∙ h.images p

      go : (dirty : Dirty) → Covers (stored_lrcs m d) dirty (new_number W) W → Positive dirty → ReplayedTrue d dirty
      go [] cover pos = record {
        res = first;
        replays = refl;
        many = many;
        copies = λ p. copies p ∙ ap (image m W p) (omega (arith, stored_within d h p, rw (before_older W W same) at (cover p)));
      }
      go (x ∷ xs) cover pos = record {
        res = all.last;
        replays = rw (ne_eqb (least_from x.start xs) 0 (λ z. omega (arith, least_positive x.start xs (pos x (here refl)) (λ e i. pos e (there i))))) all.reads;
        many = all.many;
        copies = λ p. all.copies p ∙ ap (image m W p) (omega (arith, stored_within d h p));
      }
        where
          all : ReplayedTo (size d) d.log.capacity m W (x ∷ xs) (stored_lrcs m d) first W
          all = replay_all (size d) d.log.capacity m W (x ∷ xs) (stored_lrcs m d) h.legal (stored_within d h) cover first many copies W same h.legal

  pub redo_replays : (d : Devices) (f : Found) → Durable m d → Analysed m d f → ReplayedTrue d f.dirty
  redo_replays d f h a = replay_true d f.dirty h a.pages a.positive

  -- the first slot read whole comes before every start
  pub redo_first : (d : Devices) (f : Found) → Analysed m d f → First m d (cond (eqb (least_start f.dirty) 0) f.first (min f.first (least_start f.dirty)))
  redo_first d f a = go f.dirty a.pages a.positive
    where
      W : Log C
      W = whole m d

      to_start : (dirty : Dirty) (k : ℕ) → Covers (stored_lrcs m d) dirty (new_number W) W → 1 ≤ k → k ≤ new_number W → ((e : DirtyPage) → In e dirty → k ≤ e.start) → First m d k
      to_start dirty k cover from until least = record {
        from = from;
        until = until;
        covers = λ p. let s = start_after p (new_number W) k dirty until least in
            omega (arith, cover p, count_up_to (pred k) (pred (start_of p dirty (new_number W))) W p (omega arith));
      }

      go : (dirty : Dirty) → Covers (stored_lrcs m d) dirty (new_number W) W → Positive dirty → First m d (cond (eqb (least_start dirty) 0) f.first (min f.first (least_start dirty)))
      go [] cover pos = to_start [] f.first cover a.from a.until (λ e i. elim i [ ])
      go (x ∷ xs) cover pos =
          let one = least_positive x.start xs (pos x (here refl)) (λ e i. pos e (there i)) in
          rw (ne_eqb (least_from x.start xs) 0 (λ z. omega arith))
          (to_start (x ∷ xs) (min f.first (least_from x.start xs)) cover (omega (arith, a.from)) (omega (arith, a.until))
          (λ e i. omega (arith, least_start_below (x ∷ xs) e i)))

  -- what redo's plan makes the server hold
  abbrev pub redone_with : Found → Replay → Working
  redone_with f res = let from = least_start f.dirty in record { copies = res.copies; jobs = f.jobs; first = cond (eqb from 0) f.first (min f.first from) }

  pub redo_done : (d : Devices) (f : Found) (res : Replay) → Durable m d → Analysed m d f → replayed m d f.dirty (stored_pages m d) ≡ Ok res → Redone m d (redone_with f res)
  redo_done d f res h a e = record {
    power = a.power;
    jobs = a.jobs;
    many = ap (λ (r : Replay). length r.copies) one ∙ x.many;
    copies = λ p. ap (λ (r : Replay). copy_of r.copies p) one ∙ x.copies p;
    first = redo_first d f a;
  }
    where
      x : ReplayedTrue d f.dirty
      x = redo_replays d f h a

      one : res ≡ x.res
      one = let r = x.replays in cc

  -- The blank beginning: analysis finds nothing from slot 1 on, and redo plays nothing

  pub blank_found : (n capacity : ℕ) (a b : Bool) → found_in (whole m (powered_on (blank m n capacity a b))) (last_end (slots (powered_on (blank m n capacity a b))))
      ≡ Ok (record { jobs = []; dirty = []; first = 1 })
  blank_found n capacity a b = refl

  pub blank_replayed : (n capacity : ℕ) (a b : Bool)
      → replayed m (powered_on (blank m n capacity a b)) [] (stored_pages m (powered_on (blank m n capacity a b))) ≡ Ok (record { copies = replicate n blank_page; count = 0 })
  blank_replayed n capacity a b = ap (λ cs. Ok (record { copies = cs; count = 0 })) (blank_copies n)
    where
      blank_copies : (n : ℕ) → map page_of (replicate n (replicate 256 0)) ≡ replicate n blank_page
      blank_copies zero = refl
      blank_copies (suc n) = ap (λ cs. blank_page ∷ cs) (blank_copies n)
