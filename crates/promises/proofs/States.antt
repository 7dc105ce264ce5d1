-- What holds at all times, told of the parts of the devices, holds one step on: more is forced, a slot is put, a page is written, only the forced slots
-- are left. Assumes nothing.
use Rattle.std.proofs.Common.{◌≡◌, ℕ, ◌<◌, ◌≤◌, Bool, true, false, cond, ◌&&◌, ◌||◌, eqb, leb, ◌⊎◌, List, [], ◌∷◌, map, length, Some, sym, refl, ap, ◌∙◌, subst, inl, inr, arith}
use mathlib.Core.Path.{fun_ext}
use Rattle.std.proofs.lemmas.Bool.{eqb-true, cases_lt, and_parts, and_right, or_cases, or_right}
use Rattle.format.specs.declared.slot.Slot.{Slot}
use Rattle.format.specs.declared.slot.Slot.TheVariants.{Record, Job, Checkpoint}
use Rattle.format.specs.declared.slot.JobEvent.{JobEvent}
use Rattle.format.specs.declared.slot.JobEvent.TheVariants.{Open, Commit, End}
use Rattle.format.specs.declared.slot.CheckpointPart.TheVariants.{Complete}
use Rattle.format.specs.declared.page.Page.{Page}
use Rattle.format.specs.Changes.{Meaning}
use Rattle.recovery_log.specs.Log.{Log, new_number, Numbered, commits, is_committed}
use Rattle.rules.specs.Ledger.{Ledger, Entry, is_in}
use Rattle.rules.specs.Reading.{at, up_to}
use Rattle.rules.specs.Restart.{whole}
use Rattle.rules.specs.State.{Devices, size}
use Rattle.promises.proofs.Cuts.{older_up_to, exclusive_up_to, length_up_to, up_to_all, at_up_to, up_to_up_to, committed_older, legal_up_to}
use Rattle.promises.proofs.Decoded.{up_to_more, at_above, whole_length}
use Rattle.promises.proofs.Images.{image_older}
use Rattle.promises.proofs.Invariants.{Truth, entry_of, entries_by, pile_by, stored, Kept}
use Rattle.promises.proofs.Legal.{count, pile, image, NextSlot, Room, Legal, Alone, Exclusive, Older, same, more}
use Rattle.promises.proofs.Membership.{In}
use Rattle.promises.proofs.PageCounts.{count_older, count_up_to}
use Rattle.promises.proofs.Safety.{Honest}
use Rattle.promises.proofs.Piles.{of_committed, committed_pile}
use Rattle.promises.proofs.Truths.{length_cut, truth_more, truth_same}

-- Entries and changes of fewer jobs

abbrev only : {C : Type 0} → (ℕ → Bool) → List (Entry C) → List (Entry C)
only g [] = []
only g (e ∷ es) = cond (g e.job) (e ∷ only g es) (only g es)

module _ {C : Type 0} (f g : ℕ → Bool) (fewer : (j : ℕ) → g j ≡ true → f j ≡ true) where
  only_step : (e : Entry C) (xs ys : List (Entry C)) (q : Bool) → ys ≡ only g xs
      → cond (q && g e.job) (e ∷ ys) ys ≡ only g (cond (q && f e.job) (e ∷ xs) xs)
  only_step e xs ys q ih = go q (f e.job) (g e.job) refl (fewer e.job)
    where
      go : (q a b : Bool) → g e.job ≡ b → (b ≡ true → a ≡ true) → cond (q && b) (e ∷ ys) ys ≡ only g (cond (q && a) (e ∷ xs) xs)
      go false a b k u = ih
      go true true b k u = rw (k, ih)
      go true false true k u = let z : ◌≡◌ {A = ℕ} 0 1 = cc (u refl) in absurd (omega arith)
      go true false false k u = ih

  only_entries : (p : ℕ) (es : List (Entry C)) → entries_by g p es ≡ only g (entries_by f p es)
  only_entries p [] = refl
  only_entries p (e ∷ es) = only_step e (entries_by f p es) (entries_by g p es) (eqb e.page p) (only_entries p es)

  only_pile : (xs : List (Numbered C)) → pile_by g xs ≡ only g (pile_by f xs)
  only_pile [] = refl
  only_pile (x ∷ xs) = only_step (entry_of x) (pile_by f xs) (pile_by g xs) true (only_pile xs)

  fewer_entries : (p : ℕ) (es : List (Entry C)) (xs : List (Numbered C)) → entries_by f p es ≡ pile_by f xs → entries_by g p es ≡ pile_by g xs
  fewer_entries p es xs q = only_entries p es ∙ (ap (only g) q ∙ sym (only_pile xs))

-- the changes of committed jobs stay
pile_kept : {C : Type 0} (M : Log C) (xs : List (Numbered C)) → pile_by (is_committed M) xs ≡ map entry_of (of_committed M xs)
pile_kept M [] = refl
pile_kept M (x ∷ xs) = go (is_committed M x.record'.job) (pile_kept M xs)
  where
    go : (t : Bool) → pile_by (is_committed M) xs ≡ map entry_of (of_committed M xs)
        → cond t (entry_of x ∷ pile_by (is_committed M) xs) (pile_by (is_committed M) xs) ≡ map entry_of (cond t (x ∷ of_committed M xs) (of_committed M xs))
    go true ih = ap (λ ys. entry_of x ∷ ys) ih
    go false ih = ih

module _ {C : Type 0} (size capacity : ℕ) where
  committed_pile_by : (M L : Log C) (p : ℕ) → Older M L → Legal size capacity L → Exclusive L → pile_by (is_committed M) (pile L p) ≡ pile_by (is_committed M) (pile M p)
  committed_pile_by M L p o l x = pile_kept M (pile L p) ∙ (ap (map entry_of) (committed_pile size capacity M L p o l x) ∙ sym (pile_kept M (pile M p)))

no_commit : {C : Type 0} (e : JobEvent) (k : ℕ) (L : Log C) → commits e ≡ false → is_committed (Some (Job e k) ∷ L) ≡ is_committed L
no_commit e k L q = fun_ext (λ j. rw (and_right (eqb k j) (commits e) q))

-- What holds at all times, by the parts of the devices that it tells of

module _ {C : Type 0} (m : Meaning C) (h : Ledger C) where
  pub record State (size capacity forced : ℕ) (L : Log C) (page : ℕ → Page) : Type 0 where
    pub sizes : (leb 1 size && (leb size 64 && (leb 8 capacity && leb capacity 4096))) ≡ true
    pub held : forced ≤ length L
    pub legal : Legal size capacity L
    pub exclusive : Exclusive L
    pub images : (p : ℕ) → page p ≡ image m L p (page p).lrc
    pub ahead : (p : ℕ) → (page p).lrc ≤ count (up_to forced L) p
    pub truths : (e b : ℕ) → at L e ≡ Some (Checkpoint (Complete b)) → Truth (λ p. (page p).lrc) L e
    pub entries : (p : ℕ) → entries_by (is_committed L) p h.entries ≡ pile_by (is_committed L) (pile L p)
    pub committed : (j : ℕ) → is_committed L j ≡ true → (is_in j h.kept || is_in j h.doubtful) ≡ true
    pub kept : (j : ℕ) → is_in j h.kept ≡ true → is_committed (up_to forced L) j ≡ true
    pub old : (e : Entry C) → In e h.entries → e.job ≤ forced

  abbrev pub StateOf : Devices → Type 0
  StateOf d = State (size d) d.log.capacity d.log.forced (whole m d) (stored m d)

  pub state_of : (d : Devices) → Kept m h d → StateOf d
  state_of d k = record {
    sizes = k.durable.sizes;
    held = rw (whole_length m d) k.durable.forced;
    legal = k.durable.legal;
    exclusive = k.durable.exclusive;
    images = k.durable.images;
    ahead = k.durable.ahead;
    truths = k.durable.truths;
    entries = k.book.entries;
    committed = k.book.committed;
    kept = k.book.kept;
    old = k.book.old;
  }

  pub of_state : (d : Devices) → StateOf d → Kept m h d
  of_state d s = record {
    durable = record {
      sizes = s.sizes;
      forced = rw (whole_length m d) at s.held;
      legal = s.legal;
      exclusive = s.exclusive;
      images = s.images;
      ahead = s.ahead;
      truths = s.truths;
    };
    book = record { entries = s.entries; committed = s.committed; kept = s.kept; old = s.old };
  }

  -- the same of devices that agree in the parts
  pub kept_by : (d : Devices) (size' capacity forced : ℕ) (L : Log C) (page : ℕ → Page) → size d ≡ size' → d.log.capacity ≡ capacity → d.log.forced ≡ forced
      → whole m d ≡ L → ((p : ℕ) → stored m d p ≡ page p) → State size' capacity forced L page → Kept m h d
  kept_by d size' capacity forced L page a b c l p s = of_state d
      (subst (λ n. State n d.log.capacity d.log.forced (whole m d) (stored m d)) (sym a)
      (subst (λ n. State size' n d.log.forced (whole m d) (stored m d)) (sym b)
      (subst (λ n. State size' capacity n (whole m d) (stored m d)) (sym c)
      (subst (λ K. State size' capacity forced K (stored m d)) (sym l)
      (subst (State size' capacity forced L) (sym (fun_ext p)) s)))))

  -- The parts, one step on

  module _ (size capacity : ℕ) where
    -- more is forced
    pub raised : (f g : ℕ) (L : Log C) (page : ℕ → Page) → f ≤ g → g ≤ length L → State size capacity f L page → State size capacity g L page
    raised f g L page up le s = record {
      sizes = s.sizes;
      held = le;
      legal = s.legal;
      exclusive = s.exclusive;
      images = s.images;
      ahead = λ p. let a = s.ahead p in omega (arith, count_up_to f g L p up);
      truths = s.truths;
      entries = s.entries;
      committed = s.committed;
      kept = λ j i. committed_older (up_to f L) (up_to g L) j (subst (λ (K : Log C). Older K (up_to g L)) (up_to_up_to g f L up) (older_up_to f (up_to g L))) (s.kept j i);
      old = λ e i. let a = s.old e i in omega arith;
    }

    -- a page is written
    pub rewritten : (f : ℕ) (L : Log C) (page new : ℕ → Page) → f ≡ length L → ((p : ℕ) → (page p).lrc ≤ (new p).lrc) → ((p : ℕ) → (new p).lrc ≤ count L p)
        → ((p : ℕ) → new p ≡ image m L p (new p).lrc) → State size capacity f L page → State size capacity f L new
    rewritten f L page new all up most is s = record {
      sizes = s.sizes;
      held = s.held;
      legal = s.legal;
      exclusive = s.exclusive;
      images = is;
      ahead = λ p. rw (up_to_all f L (omega arith)) (most p);
      truths = λ e b q. truth_more L e (λ p. (page p).lrc) (λ p. (new p).lrc) up (s.truths e b q);
      entries = s.entries;
      committed = s.committed;
      kept = s.kept;
      old = s.old;
    }

    -- only the forced slots are left
    pub cut : (f : ℕ) (L : Log C) (page : ℕ → Page) → State size capacity f L page → State size capacity f (up_to f L) page
    cut f L page s = record {
      sizes = s.sizes;
      held = rw (length_up_to f L s.held) (omega arith);
      legal = legal_up_to size capacity f L s.legal;
      exclusive = exclusive_up_to f L s.exclusive;
      images = λ p. s.images p ∙ image_older size capacity m (up_to f L) L p (page p).lrc (older_up_to f L) s.legal (s.ahead p);
      ahead = λ p. rw (up_to_up_to f f L (omega arith)) (s.ahead p);
      truths = λ e b q. truth_left e b q (cases_lt f e);
      entries = λ p. fewer_entries (is_committed L) (is_committed (up_to f L)) (λ j c. committed_older (up_to f L) L j (older_up_to f L) c) p h.entries (pile L p) (s.entries p)
          ∙ committed_pile_by size capacity (up_to f L) L p (older_up_to f L) s.legal s.exclusive;
      committed = λ j c. s.committed j (committed_older (up_to f L) L j (older_up_to f L) c);
      kept = λ j i. rw (up_to_up_to f f L (omega arith)) (s.kept j i);
      old = s.old;
    }
      where
        truth_left : (e b : ℕ) → at (up_to f L) e ≡ Some (Checkpoint (Complete b)) → (f < e) ⊎ (e ≤ f) → Truth (λ p. (page p).lrc) (up_to f L) e
        truth_left e b q (inl gt) = let z : ◌≡◌ {A = ℕ} 0 1 = cc (at_above e (up_to f L) (omega (arith, length_cut f L))) in absurd (omega arith)
        truth_left e b q (inr le) = let q' = sym (at_up_to f e L le) ∙ q in
            truth_same L (up_to f L) e (sym (up_to_up_to f e L le)) size capacity (λ p. (page p).lrc) b s.legal q' (s.truths e b q')

    -- a slot is put
    module _ (f : ℕ) (L : Log C) (page : ℕ → Page) (s : Slot C) (st : State size capacity f L page) (fits : NextSlot size (Some s) L)
        (room : Room capacity (Some s ∷ L)) (alone : Alone (Some s) L) (honest : Honest h (λ p. (page p).lrc) L s) where
      pub put_legal : Legal size capacity (Some s ∷ L)
      put_legal = (st.legal, fits, room)

      pub put_exclusive : Exclusive (Some s ∷ L)
      put_exclusive = (st.exclusive, alone)

      put_truth : (e b : ℕ) → at (Some s ∷ L) e ≡ Some (Checkpoint (Complete b)) → Truth (λ p. (page p).lrc) (Some s ∷ L) e
      put_truth e b q = go (eqb e (new_number L)) refl q
        where
          older : at L e ≡ Some (Checkpoint (Complete b)) → (length L < e) ⊎ (e ≤ length L) → Truth (λ p. (page p).lrc) (Some s ∷ L) e
          older q' (inl gt) = let z : ◌≡◌ {A = ℕ} 0 1 = cc (at_above e L gt) in absurd (omega arith)
          older q' (inr le) = truth_same L (Some s ∷ L) e (sym (up_to_more e (Some s) L le)) size capacity (λ p. (page p).lrc) b st.legal q' (st.truths e b q')

          go : (t : Bool) → eqb e (new_number L) ≡ t → cond t (Some s) (at L e) ≡ Some (Checkpoint (Complete b)) → Truth (λ p. (page p).lrc) (Some s ∷ L) e
          go true n q' =
              let same : s ≡ Checkpoint (Complete b) = cc in
              let new : Truth (λ p. (page p).lrc) (Some (Checkpoint (Complete b)) ∷ L) (new_number L) = subst (Honest h (λ p. (page p).lrc) L) same honest in
              subst (λ (k : ℕ). Truth (λ p. (page p).lrc) (Some s ∷ L) k) (sym (eqb-true _ _ n))
              (subst (λ (x : Slot C). Truth (λ p. (page p).lrc) (Some x ∷ L) (new_number L)) (sym same) new)
          go false n q' = older q' (cases_lt (length L) e)

      put_entries : (p : ℕ) → entries_by (is_committed (Some s ∷ L)) p h.entries ≡ pile_by (is_committed (Some s ∷ L)) (pile (Some s ∷ L) p)
      put_entries p = go s honest (st.entries p ∙ sym (committed_pile_by size capacity L (Some s ∷ L) p (more same) put_legal put_exclusive))
        where
          go : (s : Slot C) → Honest h (λ p. (page p).lrc) L s → entries_by (is_committed L) p h.entries ≡ pile_by (is_committed L) (pile (Some s ∷ L) p)
              → entries_by (is_committed (Some s ∷ L)) p h.entries ≡ pile_by (is_committed (Some s ∷ L)) (pile (Some s ∷ L) p)
          go (Record r) w q = q
          go (Job Open k) w q = subst (λ (f : ℕ → Bool). entries_by f p h.entries ≡ pile_by f (pile L p)) (sym (no_commit Open k L refl)) q
          go (Job Commit k) w q = w.entries p
          go (Job End k) w q = subst (λ (f : ℕ → Bool). entries_by f p h.entries ≡ pile_by f (pile L p)) (sym (no_commit End k L refl)) q
          go (Checkpoint c) w q = q

      put_committed : (j : ℕ) → is_committed (Some s ∷ L) j ≡ true → (is_in j h.kept || is_in j h.doubtful) ≡ true
      put_committed j = go s honest (st.committed j)
        where
          go : (s : Slot C) → Honest h (λ p. (page p).lrc) L s → (is_committed L j ≡ true → (is_in j h.kept || is_in j h.doubtful) ≡ true)
              → is_committed (Some s ∷ L) j ≡ true → (is_in j h.kept || is_in j h.doubtful) ≡ true
          go (Record r) w was c = was c
          go (Job Open k) w was c = was (subst (λ (f : ℕ → Bool). f j ≡ true) (no_commit Open k L refl) c)
          go (Job Commit k) w was c = by (or_cases (eqb k j && true) (is_committed L j) c)
            where
              by : ((eqb k j && true) ≡ true) ⊎ (is_committed L j ≡ true) → (is_in j h.kept || is_in j h.doubtful) ≡ true
              by (inl e) = or_right (is_in j h.kept) (is_in j h.doubtful)
                  (subst (λ (i : ℕ). is_in i h.doubtful ≡ true) (eqb-true k j (and_parts (eqb k j) true e).0) w.doubted)
              by (inr e) = was e
          go (Job End k) w was c = was (subst (λ (f : ℕ → Bool). f j ≡ true) (no_commit End k L refl) c)
          go (Checkpoint c') w was c = was c

      pub put : State size capacity f (Some s ∷ L) page
      put = let held = st.held in record {
        sizes = st.sizes;
        held = omega arith;
        legal = put_legal;
        exclusive = put_exclusive;
        images = λ p. st.images p ∙ sym (image_older size capacity m L (Some s ∷ L) p (page p).lrc (more same) put_legal
            (let a = st.ahead p in omega (arith, count_older (up_to f L) L p (older_up_to f L))));
        ahead = λ p. rw (up_to_more f (Some s) L held) (st.ahead p);
        truths = put_truth;
        entries = put_entries;
        committed = put_committed;
        kept = λ j i. rw (up_to_more f (Some s) L held) (st.kept j i);
        old = st.old;
      }
