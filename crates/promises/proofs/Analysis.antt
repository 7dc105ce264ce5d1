-- Analysis of a legal log never refuses, and what it finds is true: the open jobs, and where each page's redo starts. Assumes nothing.
use Rattle.std.proofs.Common.{◌≡◌, ℕ, pred, ◌<◌, ◌≤◌, Bool, true, false, cond, eqb, ltb, ◌⊎◌, [], ◌∷◌, ◌++◌, length, is_some, Some, None, Ok, Option, unwrap_or, sym, refl, ap, ◌∙◌, subst, inl, inr, ⊎_elim, arith}
use Rattle.std.specs.Option.{option_map}
use Rattle.std.proofs.lemmas.Bool.{eqb-true, ltb-true, ltb-false, lt-ltb, le-ltb, cases_lt}
use Rattle.format.specs.declared.slot.Slot.{Slot}
use Rattle.format.specs.declared.slot.Slot.TheVariants.{Record, Job, Checkpoint}
use Rattle.format.specs.declared.slot.PageRecord.{PageRecord}
use Rattle.format.specs.declared.slot.JobEvent.{JobEvent}
use Rattle.format.specs.declared.slot.JobEvent.TheVariants.{Open, Commit, End}
use Rattle.format.specs.declared.slot.CheckpointPart.{CheckpointPart}
use Rattle.format.specs.declared.slot.CheckpointPart.TheVariants.{Complete}
use Rattle.format.specs.Changes.{Meaning}
use Rattle.recovery_log.specs.Log.{Log, new_number, is_open, next_by}
use Rattle.rules.specs.declared.table.DirtyPage.{DirtyPage}
use Rattle.rules.specs.Playing.{or_else}
use Rattle.rules.specs.Reading.{at, up_to, scan, last_end}
use Rattle.rules.specs.Restart.{Tables, tables, Start, analyse, analyse_event, start_at, found_in, whole}
use Rattle.rules.specs.State.{Devices, Found, size, slots}
use Rattle.rules.specs.Tables.{Dirty, is_job, with_next, find_page, with_dirty}
use Rattle.promises.proofs.Legal.{count, open_jobs, jobs_by, Legal, Turns, Older, same, more}
use Rattle.promises.proofs.Invariants.{start_of, Positive, before, Covers, Truth, stored_lrcs, Durable, Powered, Analysed}
use Rattle.promises.proofs.Membership.{here, there}
use Rattle.promises.proofs.Cuts.{up_to_all}
use Rattle.promises.proofs.Decoded.{legal_some, last_end_inside, whole_length, last_end_found}
use Rattle.promises.proofs.JobLaws.{table_has}
use Rattle.promises.proofs.PageCounts.{up_to_less}

-- The table of dirty pages

find_added : (q : ℕ) (x : DirtyPage) (dirty : Dirty) → find_page q (dirty ++ x ∷ []) ≡ or_else (find_page q dirty) (cond (eqb x.page q) (Some x) None)
find_added q x [] = refl
find_added q x (y ∷ ys) = go (eqb y.page q) (find_added q x ys)
  where
    go : (t : Bool) → find_page q (ys ++ x ∷ []) ≡ or_else (find_page q ys) (cond (eqb x.page q) (Some x) None)
        → cond t (Some y) (find_page q (ys ++ x ∷ [])) ≡ or_else (cond t (Some y) (find_page q ys)) (cond (eqb x.page q) (Some x) None)
    go true ih = refl
    go false ih = ih

-- a page that gets an entry starts there, unless it had one; every other page starts where it did
start_with_dirty : (p q s n : ℕ) (dirty : Dirty) → start_of q (with_dirty p s dirty) n ≡ cond (eqb p q) (start_of q dirty s) (start_of q dirty n)
start_with_dirty p q s n dirty = go (find_page p dirty) refl (eqb p q) refl
  where
    x : DirtyPage
    x = record { page = p; start = s }

    elsewhere : (o : Option DirtyPage) → find_page q dirty ≡ o → find_page p dirty ≡ None → eqb p q ≡ false → start_of q (with_dirty p s dirty) n ≡ start_of q dirty n
    elsewhere None g e f = rw (e, find_added q x dirty, g, f)
    elsewhere (Some y) g e f = rw (e, find_added q x dirty, g)

    go : (o : Option DirtyPage) → find_page p dirty ≡ o → (t : Bool) → eqb p q ≡ t → start_of q (with_dirty p s dirty) n ≡ cond t (start_of q dirty s) (start_of q dirty n)
    go (Some y) e true f = rw (e, subst (λ z. find_page z dirty ≡ Some y) (eqb-true p q f) e)
    go (Some y) e false f = rw e
    go None e true f = rw (e, find_added q x dirty, subst (λ z. find_page z dirty ≡ None) (eqb-true p q f) e, f)
    go None e false f = elsewhere (find_page q dirty) refl e f

positive_with_dirty : (p s : ℕ) (dirty : Dirty) → 1 ≤ s → Positive dirty → Positive (with_dirty p s dirty)
positive_with_dirty p s dirty le h = go (is_some (find_page p dirty))
  where
    added : (xs : Dirty) → Positive xs → Positive (xs ++ record { page = p; start = s } ∷ [])
    added [] old e (here i) = subst (λ (y : DirtyPage). 1 ≤ y.start) (sym i) le
    added [] old e (there i) = elim i [ ]
    added (x ∷ xs) old e (here i) = old e (here i)
    added (x ∷ xs) old e (there i) = added xs (λ y k. old y (there k)) e i

    go : (t : Bool) → Positive (cond t dirty (dirty ++ record { page = p; start = s } ∷ []))
    go true = h
    go false = added dirty h

module _ {C : Type 0} where
  pub older_length : (M W : Log C) → Older M W → length M ≤ length W
  older_length M W same = omega arith
  older_length M W (more {s = s} {L = K} o) = omega (arith, older_length M K o)

  pub before_older : (M W : Log C) → Older M W → before (new_number M) W ≡ M
  before_older M W same = up_to_all (length M) M (omega arith)
  before_older M W (more {s = s} {L = K} o) = up_to_less (length M) s K (older_length M K o) ∙ before_older M K o

  up_to_zero : (L : Log C) → up_to 0 L ≡ []
  up_to_zero [] = refl
  up_to_zero (s ∷ L) = up_to_less 0 s L (omega arith) ∙ up_to_zero L

  pub older_tail : (s : Option (Slot C)) (M W : Log C) → Older (s ∷ M) W → Older M W
  older_tail s M W same = more same
  older_tail s M W (more o) = more (older_tail s M _ o)

  -- a slot that is no record of the page covers no more of it
  covers_more : (s : Option (Slot C)) (M W : Log C) (q k : ℕ) (dirty : Dirty) → Older (s ∷ M) W → count (s ∷ M) q ≡ count M q
      → count (before (start_of q dirty (new_number M)) W) q ≤ k → count (before (start_of q dirty (new_number (s ∷ M))) W) q ≤ k
  covers_more s M W q k dirty o none le = go (find_page q dirty) le
    where
      go : (f : Option DirtyPage) → count (before (unwrap_or (option_map (λ e. e.start) f) (new_number M)) W) q ≤ k
          → count (before (unwrap_or (option_map (λ e. e.start) f) (new_number (s ∷ M))) W) q ≤ k
      go (Some x) h = h
      go None h = rw (before_older (s ∷ M) W o, none) (rw (before_older M W (older_tail s M W o)) at h)

  -- What analysis comes to

  -- reading on from slot b of the log W with the tables t: the tables after its part M
  pub record ReadOn (lrcs : ℕ → ℕ) (b : ℕ) (t : Tables) (W M : Log C) : Type 0 where
    pub last : Tables
    pub reads : scan b analyse t M ≡ Ok last
    pub jobs : last.jobs ≡ open_jobs M
    pub pages : Covers lrcs last.dirty (new_number M) W
    pub positive : Positive last.dirty

  -- beginning where the checkpoint that ends at e says, or at slot 1 for e = 0
  pub record FoundTrue (lrcs : ℕ → ℕ) (L : Log C) (e : ℕ) : Type 0 where
    pub found : Found
    pub finds : found_in L e ≡ Ok found
    pub jobs : found.jobs ≡ open_jobs L
    pub pages : Covers lrcs found.dirty (new_number L) L
    pub positive : Positive found.dirty
    pub from : 1 ≤ found.first
    pub until : found.first ≤ new_number L

module _ {C : Type 0} (size capacity : ℕ) where
  module _ (lrcs : ℕ → ℕ) (b : ℕ) (t : Tables) (W : Log C) where
    -- a slot that is read
    step : (s : Option (Slot C)) (M : Log C) → b ≤ new_number M → (x : ReadOn lrcs b t W M) (y : Tables) → analyse (new_number M) s x.last ≡ Ok y
        → scan b analyse t (s ∷ M) ≡ Ok y
    step s M le x y e = rw (le-ltb (new_number M) b le, x.reads) e

    read_record : (r : PageRecord C) (M : Log C) → b ≤ new_number M → Older (Some (Record r) ∷ M) W → Legal size capacity (Some (Record r) ∷ M)
        → ReadOn lrcs b t W M → ReadOn lrcs b t W (Some (Record r) ∷ M)
    read_record r M le o h x = record {
      last = now;
      reads = step (Some (Record r)) M le x now (rw is_there);
      jobs = ap (with_next r.job (next_by r.action (new_number M) r.link)) x.jobs;
      pages = λ q. rw (start_with_dirty r.page q (new_number M) (new_number (Some (Record r) ∷ M)) x.last.dirty) (covered q (eqb r.page q) refl);
      positive = positive_with_dirty r.page (new_number M) x.last.dirty (omega arith) x.positive;
    }
      where
        now : Tables
        now = tables (with_next r.job (next_by r.action (new_number M) r.link) x.last.jobs) (with_dirty r.page (new_number M) x.last.dirty)

        is_there : is_job r.job x.last.jobs ≡ true
        is_there = ap (is_job r.job) x.jobs ∙ table_has size capacity M r.job h.0 ∙ h.1.opened

        covered : (q : ℕ) (u : Bool) → eqb r.page q ≡ u
            → count (before (cond u (start_of q x.last.dirty (new_number M)) (start_of q x.last.dirty (new_number (Some (Record r) ∷ M)))) W) q ≤ lrcs q
        covered q true e = x.pages q
        covered q false e = covers_more (Some (Record r)) M W q (lrcs q) x.last.dirty o (rw e) (x.pages q)

    read_event : (e : JobEvent) (j : ℕ) (M : Log C) → b ≤ new_number M → Older (Some (Job e j) ∷ M) W → Legal size capacity (Some (Job e j) ∷ M)
        → ReadOn lrcs b t W M → ReadOn lrcs b t W (Some (Job e j) ∷ M)
    read_event e j M le o h x = record {
      last = now;
      reads = step (Some (Job e j)) M le x now (by_event e h.1);
      jobs = ap (jobs_by e j) x.jobs;
      pages = λ q. covers_more (Some (Job e j)) M W q (lrcs q) x.last.dirty o refl (x.pages q);
      positive = x.positive;
    }
      where
        now : Tables
        now = tables (jobs_by e j x.last.jobs) x.last.dirty

        is_there : is_open M j ≡ true → is_job j x.last.jobs ≡ true
        is_there q = ap (is_job j) x.jobs ∙ table_has size capacity M j h.0 ∙ q

        by_event : (v : JobEvent) → Turns v M j → analyse_event v j x.last ≡ Ok (tables (jobs_by v j x.last.jobs) x.last.dirty)
        by_event Open q = rw (x.jobs, lt-ltb (length (open_jobs M)) 8 q.place)
        by_event Commit q = rw (is_there q)
        by_event End q = rw (is_there q.opened)

    read_part : (c : CheckpointPart) (M : Log C) → b ≤ new_number M → Older (Some (Checkpoint c) ∷ M) W
        → ReadOn lrcs b t W M → ReadOn lrcs b t W (Some (Checkpoint c) ∷ M)
    read_part c M le o x = record {
      last = x.last;
      reads = step (Some (Checkpoint c)) M le x x.last refl;
      jobs = x.jobs;
      pages = λ q. covers_more (Some (Checkpoint c)) M W q (lrcs q) x.last.dirty o refl (x.pages q);
      positive = x.positive;
    }

    module _ (one : 1 ≤ b) (jobs : t.jobs ≡ open_jobs (before b W)) (pages : Covers lrcs t.dirty b W) (positive : Positive t.dirty) where
      -- where the slots that are read begin
      read_first : (M : Log C) → Older M W → new_number M ≡ b → scan b analyse t M ≡ Ok t → ReadOn lrcs b t W M
      read_first M o e q = record {
        last = t;
        reads = q;
        jobs = jobs ∙ ap open_jobs (ap (λ n. before n W) (sym e) ∙ before_older M W o);
        pages = rw e pages;
        positive = positive;
      }

      read_all : (M : Log C) → Older M W → Legal size capacity M → b ≤ new_number M → ReadOn lrcs b t W M
      read_all [] o h le = read_first [] o (omega arith) refl
      read_all (s ∷ M) o h le = go (ltb (new_number M) b) refl s o h (read_all M (older_tail s M W o) h.0)
        where
          go : (u : Bool) → ltb (new_number M) b ≡ u → (s : Option (Slot C)) → Older (s ∷ M) W → Legal size capacity (s ∷ M) → (b ≤ new_number M → ReadOn lrcs b t W M)
              → ReadOn lrcs b t W (s ∷ M)
          go true e s o h x = read_first (s ∷ M) o (omega (arith, ltb-true _ _ e)) (rw e)
          go false e None o h x = absurd h.1
          go false e (Some (Record r)) o h x = let k = ltb-false (new_number M) b e in read_record r M k o h (x k)
          go false e (Some (Job v j)) o h x = let k = ltb-false (new_number M) b e in read_event v j M k o h (x k)
          go false e (Some (Checkpoint c)) o h x = let k = ltb-false (new_number M) b e in read_part c M k o (x k)

  -- reading on over a legal log never refuses, and keeps the tables true
  pub analyse_legal : (lrcs : ℕ → ℕ) (b : ℕ) (t : Tables) (L : Log C) → Legal size capacity L → 1 ≤ b
      → t.jobs ≡ open_jobs (before b L) → Covers lrcs t.dirty b L → Positive t.dirty → ReadOn lrcs b t L L
  analyse_legal lrcs b t L h one jobs pages positive = ⊎_elim beyond (read_all lrcs b t L one jobs pages positive L same h) (cases_lt (new_number L) b)
    where
      -- nothing is read where b is above every number
      beyond : new_number L < b → ReadOn lrcs b t L L
      beyond lt = record {
        last = t;
        reads = unread L lt;
        jobs = jobs ∙ ap open_jobs all;
        pages = λ q. covered q (find_page q t.dirty) (pages q);
        positive = positive;
      }
        where
          all : before b L ≡ L
          all = up_to_all (pred b) L (omega arith)

          unread : (M : Log C) → new_number M < b → scan b analyse t M ≡ Ok t
          unread [] k = refl
          unread (s ∷ M) k = rw (lt-ltb (new_number M) b (omega arith))

          covered : (q : ℕ) (o : Option DirtyPage) → count (before (unwrap_or (option_map (λ e. e.start) o) b) L) q ≤ lrcs q
              → count (before (unwrap_or (option_map (λ e. e.start) o) (new_number L)) L) q ≤ lrcs q
          covered q (Some x) k = k
          covered q None k = rw (before_older L L same) (rw all at k)

  -- from a start that tells the truth
  found_after : (lrcs : ℕ → ℕ) (L : Log C) (e : ℕ) (s : Start) → Legal size capacity L → start_at L e ≡ Ok s → 1 ≤ s.begin → s.begin ≤ new_number L
      → s.found.jobs ≡ open_jobs (before s.begin L) → Covers lrcs s.found.dirty s.begin L → Positive s.found.dirty → FoundTrue lrcs L e
  found_after lrcs L e s h starts from until jobs pages positive = record {
    found = record { jobs = x.last.jobs; dirty = x.last.dirty; first = s.begin };
    finds = rw (starts, x.reads);
    jobs = x.jobs;
    pages = x.pages;
    positive = x.positive;
    from = from;
    until = until;
  }
    where
      x : ReadOn lrcs s.begin s.found L L
      x = analyse_legal lrcs s.begin s.found L h from jobs pages positive

  -- what analysis finds from slot 1 on, or from the checkpoint that ends at e
  pub found_true : (lrcs : ℕ → ℕ) (L : Log C) (e : ℕ) → Legal size capacity L → e ≤ length L → (e ≡ 0) ⊎ (Truth lrcs L e) → FoundTrue lrcs L e
  found_true lrcs L e h le (inl z) =
      found_after lrcs L e (record { begin = 1; found = tables [] [] }) h (rw z refl) (omega arith) (omega arith)
      (rw empty refl) (λ p. rw empty (omega arith)) (λ x i. elim i [ ])
    where
      empty : before 1 L ≡ []
      empty = up_to_zero L
  found_true lrcs L e h le (inr u) =
      found_after lrcs L e u.start h u.reads u.from (omega (arith, u.until)) u.jobs u.pages u.positive

-- Over devices that hold a legal log

module _ {C : Type 0} (m : Meaning C) where
  -- slot e is the end of a complete checkpoint; 0 stands for none
  abbrev pub EndsAt : Devices → ℕ → Type 0
  EndsAt d e = (e ≡ 0) ⊎ ((b : ℕ) × (at (whole m d) e ≡ Some (Checkpoint (Complete b))))

  pub last_ends : (d : Devices) → Durable m d → EndsAt d (last_end (slots d))
  last_ends d h = last_end_found m (size d) (slots d) (λ n one le. legal_some (size d) d.log.capacity (whole m d) h.legal n one (omega (arith, whole_length m d)))

  pub last_inside : (d : Devices) → last_end (slots d) ≤ length (whole m d)
  last_inside d = omega (arith, last_end_inside (slots d), whole_length m d)

  pub record AnalysisTrue (d : Devices) (e : ℕ) : Type 0 where
    pub found : Found
    pub finds : found_in (whole m d) e ≡ Ok found
    pub analysed : Analysed m d found

  -- whichever complete checkpoint it goes by
  pub analysis_done : (d : Devices) (e : ℕ) → Durable m d → Powered m d → EndsAt d e → e ≤ length (whole m d) → AnalysisTrue d e
  analysis_done d e h power ends le = record {
    found = x.found;
    finds = x.finds;
    analysed = record {
      power = power;
      jobs = x.jobs;
      pages = x.pages;
      positive = x.positive;
      from = x.from;
      until = x.until;
    };
  }
    where
      x : FoundTrue (stored_lrcs m d) (whole m d) e
      x = found_true (size d) d.log.capacity (stored_lrcs m d) (whole m d) e h.legal le (⊎_elim (λ z. inl z) (λ z. inr (h.truths e z.0 z.1)) ends)
