-- Checkpoint keeps what holds in service: its entries are harmless, and its end tells the truth.
use Rattle.std.proofs.Common.{◌≡◌, ℕ, suc, pred, ◌+◌, ◌<◌, ◌≤◌, Bool, true, false, cond, eqb, ◌⊎◌, List, [], ◌∷◌, ◌++◌, map, reverse, length, get_or, replicate, Some, None, Ok, Err, Option, Result, unwrap_or, sym, refl, ap, ◌∙◌, subst, inl, inr, ⊎_elim, append_assoc, append-nil, arith, length-append}
use mathlib.Core.List.{reverse_aux}
use Rattle.std.specs.Option.{option_map}
use Rattle.std.proofs.lemmas.Bool.{eqb-true, eqb-false, eq-eqb, ne_eqb, lt-ltb, le-ltb, cond-false}
use Rattle.format.specs.declared.slot.Slot.{Slot}
use Rattle.format.specs.declared.slot.Slot.TheVariants.{Record, Job, Checkpoint}
use Rattle.format.specs.declared.slot.CheckpointPart.TheVariants.{Begin, DirtyPage, OpenJob, Complete}
use Rattle.format.specs.Bytes.{number_at}
use Rattle.format.specs.Changes.{Meaning, Lawful}
use Rattle.device.specs.PageStores.{PageModel}
use Rattle.recovery_log.specs.Log.{Log, new_number, Numbered, pending}
use Rattle.rules.specs.declared.refusal.Refusal.{Refusal}
use Rattle.rules.specs.declared.table.JobEntry.{JobEntry}
use Rattle.rules.specs.declared.table.DirtyPage as dirty
use Rattle.rules.specs.Ledger.{Ledger}
use Rattle.rules.specs.Plans.{Op, append, force, Performed, Does}
use Rattle.rules.specs.Playing.{first_lacked, or_else}
use Rattle.rules.specs.Reading.{at, up_to, scan, then}
use Rattle.rules.specs.Restart.{Tables, tables, gather, from_begin, from_end, start_at, whole}
use Rattle.rules.specs.Runs.{checkpoints, told_service}
use Rattle.rules.specs.Service.{appends, log_read, has_room, page_entry, page_entries, job_entries, checkpoint_slots, checkpoint_in}
use Rattle.rules.specs.State.{Devices, Working, serving, World, size, log_length, next_slot}
use Rattle.rules.specs.Tables.{Jobs, new_job, find_job, Dirty, find_page}
use Rattle.promises.proofs.Appends.{Plain, Honests, plain_honest, appended_in_order, onto_reverse, safe_honest, dids_honest}
use Rattle.promises.proofs.Asking.{asked, performing}
use Rattle.promises.proofs.Cuts.{up_to_all}
use Rattle.promises.proofs.Decoded.{up_to_more, at_more, whole_length}
use Rattle.promises.proofs.Invariants.{bare, before, start_of, Positive, Covers, Truth, stored_lrcs, Kept, Serving, Stage, Good}
use Rattle.promises.proofs.JobLaws.{top_number, open_old, next_top, pending_at, table_few, table_ascending, table_entry}
use Rattle.promises.proofs.JobTables.{Ascending, above_in, entered_above}
use Rattle.promises.proofs.Legal.{count, open_jobs, owed_by, Legal, Exclusive}
use Rattle.promises.proofs.Membership.{In, here, there}
use Rattle.promises.proofs.Operations.{did_force, performed_safe}
use Rattle.promises.proofs.OwedLaws.{owed_mark, room_mark}
use Rattle.promises.proofs.PageCounts.{count_inside, first_lacked_masked, first_lacked_none, first_lacked_lower, first_lacked_some}
use Rattle.promises.proofs.Safety.{onto, SafeOps, Dids, none, next, Grown}
use Rattle.promises.proofs.Serves.{read_masked, room_read, ended_good}
use Rattle.promises.proofs.WritingOut.{OnlyMarks, marks_same, stage_on}

-- Slots appended one after the other, the oldest first

module _ {C : Type 0} where
  abbrev placed : List (Slot C) → Log C → Log C
  placed [] L = L
  placed (s ∷ ss) L = placed ss (Some s ∷ L)

  placed_length : (ss : List (Slot C)) (L : Log C) → length (placed ss L) ≡ length ss + length L
  placed_length [] L = omega arith
  placed_length (s ∷ ss) L = let k = placed_length ss (Some s ∷ L) in omega arith

  placed_at : (n : ℕ) (ss : List (Slot C)) (L : Log C) → n ≤ length L → at (placed ss L) n ≡ at L n
  placed_at n [] L le = refl
  placed_at n (s ∷ ss) L le = placed_at n ss (Some s ∷ L) (omega arith) ∙ at_more n (Some s) L le

  placed_up_to : (n : ℕ) (ss : List (Slot C)) (L : Log C) → n ≤ length L → up_to n (placed ss L) ≡ up_to n L
  placed_up_to n [] L le = refl
  placed_up_to n (s ∷ ss) L le = placed_up_to n ss (Some s ∷ L) (omega arith) ∙ up_to_more n (Some s) L le

  -- What analysis gathers from a checkpoint's entries

  abbrev gathers : List (Slot C) → Result Tables Refusal → Result Tables Refusal
  gathers [] r = r
  gathers (s ∷ ss) r = gathers ss (then r (gather 0 (Some s)))

  unnumbered : (n : ℕ) (s : Slot C) (t : Tables) → gather n (Some s) t ≡ gather 0 (Some s) t
  unnumbered n (Record r) t = refl
  unnumbered n (Job e j) t = refl
  unnumbered n (Checkpoint c) t = refl

  then_unnumbered : (n : ℕ) (s : Slot C) (r : Result Tables Refusal) → then r (gather n (Some s)) ≡ then r (gather 0 (Some s))
  then_unnumbered n s (Ok t) = unnumbered n s t
  then_unnumbered n s (Err e) = refl

  gathers_append : (ss ts : List (Slot C)) (r : Result Tables Refusal) → gathers (ss ++ ts) r ≡ gathers ts (gathers ss r)
  gathers_append [] ts r = refl
  gathers_append (s ∷ ss) ts r = gathers_append ss ts (then r (gather 0 (Some s)))

  scan_placed : (from : ℕ) (t : Tables) (ss : List (Slot C)) (M : Log C) → from ≤ new_number M → scan from gather t (placed ss M) ≡ gathers ss (scan from gather t M)
  scan_placed from t [] M le = refl
  scan_placed from t (s ∷ ss) M le = scan_placed from t ss (Some s ∷ M) (omega arith)
      ∙ ap (gathers ss) (rw (le-ltb (new_number M) from le) (then_unnumbered (new_number M) s (scan from gather t M)))

-- The dirty pages

abbrev dirty_entry : ℕ → Option ℕ → Dirty
dirty_entry p None = []
dirty_entry p (Some s) = record { page = p; start = s } ∷ []

find_more : (q : ℕ) (xs ys : Dirty) → find_page q (xs ++ ys) ≡ or_else (find_page q xs) (find_page q ys)
find_more q [] ys = refl
find_more q (x ∷ xs) ys = go (eqb x.page q) (find_more q xs ys)
  where
    go : (t : Bool) → find_page q (xs ++ ys) ≡ or_else (find_page q xs) (find_page q ys)
        → cond t (Some x) (find_page q (xs ++ ys)) ≡ or_else (cond t (Some x) (find_page q xs)) (find_page q ys)
    go true k = refl
    go false k = k

find_other : (p q : ℕ) (o : Option ℕ) → (p ≡ q → ⊥) → find_page q (dirty_entry p o) ≡ None
find_other p q None ne = refl
find_other p q (Some s) ne = rw (ne_eqb p q ne) refl

module _ {C : Type 0} (m : Meaning C) (M : Log C) where
  -- the entries for the pages from p on, as a table
  abbrev dirty_from : ℕ → List (List ℕ) → Dirty
  dirty_from p [] = []
  dirty_from p (b ∷ bs) = dirty_entry p (first_lacked p (number_at b 0) M) ++ dirty_from (suc p) bs

  find_below : (p q : ℕ) (bs : List (List ℕ)) → q < p → find_page q (dirty_from p bs) ≡ None
  find_below p q [] lt = refl
  find_below p q (b ∷ bs) lt =
      find_more q (dirty_entry p (first_lacked p (number_at b 0) M)) (dirty_from (suc p) bs)
      ∙ (ap (λ (x : Option dirty.DirtyPage). or_else x (find_page q (dirty_from (suc p) bs))) (find_other p q (first_lacked p (number_at b 0) M) (λ e. omega arith))
      ∙ find_below (suc p) q bs (omega arith))

  -- the stored pages from p on have these LRCs, and beyond them no page lacks a record
  abbrev Listed : (ℕ → ℕ) → ℕ → List (List ℕ) → Type 0
  Listed lrcs p [] = (q : ℕ) → p ≤ q → first_lacked q (lrcs q) M ≡ None
  Listed lrcs p (b ∷ bs) = (number_at b 0 ≡ lrcs p) × Listed lrcs (suc p) bs

  listed : (lrcs : ℕ → ℕ) (p : ℕ) (bs : List (List ℕ)) → ((i : ℕ) → number_at (get_or bs i (replicate 256 0)) 0 ≡ lrcs (i + p))
      → ((q : ℕ) → p + length bs ≤ q → first_lacked q (lrcs q) M ≡ None) → Listed lrcs p bs
  listed lrcs p [] e beyond = λ q le. beyond q (omega arith)
  listed lrcs p (b ∷ bs) e beyond = (
    e 0 ∙ ap lrcs (omega arith),
    listed lrcs (suc p) bs (λ i. e (suc i) ∙ ap lrcs (omega arith)) (λ q le. beyond q (omega arith)),
  )

  abbrev entry_at : ℕ → ℕ → dirty.DirtyPage
  entry_at q s = record { page = q; start = s }

  find_entry : (p : ℕ) (o : Option ℕ) (ys : Dirty) → find_page p ys ≡ None → find_page p (dirty_entry p o ++ ys) ≡ option_map (entry_at p) o
  find_entry p None ys e = e
  find_entry p (Some s) ys e = rw (eq-eqb p p refl) refl

  find_listed : (lrcs : ℕ → ℕ) (p : ℕ) (bs : List (List ℕ)) → Listed lrcs p bs → (q : ℕ) → p ≤ q → find_page q (dirty_from p bs) ≡ option_map (entry_at q) (first_lacked q (lrcs q) M)
  find_listed lrcs p [] l q le = rw (l q le) refl
  find_listed lrcs p (b ∷ bs) l q le = go (eqb p q) refl (find_listed lrcs (suc p) bs l.1 q)
    where
      go : (t : Bool) → eqb p q ≡ t → (suc p ≤ q → find_page q (dirty_from (suc p) bs) ≡ option_map (entry_at q) (first_lacked q (lrcs q) M))
          → find_page q (dirty_from p (b ∷ bs)) ≡ option_map (entry_at q) (first_lacked q (lrcs q) M)
      go true e ih = subst (λ (x : ℕ). find_page x (dirty_from p (b ∷ bs)) ≡ option_map (entry_at x) (first_lacked x (lrcs x) M)) (eqb-true p q e)
          (find_entry p (first_lacked p (number_at b 0) M) (dirty_from (suc p) bs) (find_below (suc p) p bs (omega arith)) ∙ ap (λ (n : ℕ). option_map (entry_at p) (first_lacked p n M)) l.0)
      go false e ih = let ne = eqb-false p q e in
          find_more q (dirty_entry p (first_lacked p (number_at b 0) M)) (dirty_from (suc p) bs)
          ∙ (ap (λ (x : Option dirty.DirtyPage). or_else x (find_page q (dirty_from (suc p) bs))) (find_other p q (first_lacked p (number_at b 0) M) ne)
          ∙ ih (omega arith))

  page_step : (js : Jobs) (D : Dirty) (p s : ℕ) → find_page p D ≡ None → gather {C = C} 0 (Some (Checkpoint (DirtyPage p s))) (tables js D) ≡ Ok (tables js (D ++ entry_at p s ∷ []))
  page_step js D p s e = rw e refl

  gather_pages : (js : Jobs) (D : Dirty) (p : ℕ) (bs : List (List ℕ)) → ((q : ℕ) → p ≤ q → find_page q D ≡ None)
      → gathers (page_entries m M p bs) (Ok (tables js D)) ≡ Ok (tables js (D ++ dirty_from p bs))
  gather_pages js D p [] free = ap (λ (x : Dirty). Ok (tables js x)) (sym (append-nil D))
  gather_pages js D p (b ∷ bs) free = go (first_lacked p (number_at b 0) M) (λ E. gather_pages js E (suc p) bs)
    where
      free_after : (s q : ℕ) → suc p ≤ q → find_page q (D ++ entry_at p s ∷ []) ≡ None
      free_after s q le = find_more q D (entry_at p s ∷ []) ∙ rw (free q (omega arith), ne_eqb p q (λ e. omega arith)) refl

      go : (o : Option ℕ) → ((E : Dirty) → ((q : ℕ) → suc p ≤ q → find_page q E ≡ None) → gathers (page_entries m M (suc p) bs) (Ok (tables js E)) ≡ Ok (tables js (E ++ dirty_from (suc p) bs)))
          → gathers (page_entry m p o ++ page_entries m M (suc p) bs) (Ok (tables js D)) ≡ Ok (tables js (D ++ (dirty_entry p o ++ dirty_from (suc p) bs)))
      go None ih = ih D (λ q le. free q (omega arith))
      go (Some s) ih = ap (gathers (page_entries m M (suc p) bs)) (page_step js D p s (free p (omega arith))) ∙ (ih (D ++ entry_at p s ∷ []) (free_after s)
          ∙ ap (λ (x : Dirty). Ok (tables js x)) (append_assoc D (entry_at p s ∷ []) (dirty_from (suc p) bs)))

  -- every entry's start is one that first_lacked gave
  positive_from : (lrcs : ℕ → ℕ) (p : ℕ) (bs : List (List ℕ)) → Listed lrcs p bs → ((q s : ℕ) → first_lacked q (lrcs q) M ≡ Some s → 1 ≤ s) → Positive (dirty_from p bs)
  positive_from lrcs p [] l some x i = elim i [ ]
  positive_from lrcs p (b ∷ bs) l some x i = go (first_lacked p (number_at b 0) M) (ap (λ (n : ℕ). first_lacked p n M) l.0) i (positive_from lrcs (suc p) bs l.1 some x)
    where
      go : (o : Option ℕ) → o ≡ first_lacked p (lrcs p) M → In x (dirty_entry p o ++ dirty_from (suc p) bs) → (In x (dirty_from (suc p) bs) → 1 ≤ x.start) → 1 ≤ x.start
      go None e i ih = ih i
      go (Some s) e (here is) ih = subst (λ (y : dirty.DirtyPage). 1 ≤ y.start) (sym is) (some p s (sym e))
      go (Some s) e (there i) ih = ih i

-- The jobs

bare_bare : (t : Jobs) → bare (bare t) ≡ bare t
bare_bare [] = refl
bare_bare (x ∷ xs) = ap (λ (t : Jobs). new_job x.job x.next ∷ t) (bare_bare xs)

none_below : (n : ℕ) (t : Jobs) → ((x : JobEntry) → In x t → x.job < n) → find_job n t ≡ None
none_below n [] most = refl
none_below n (x ∷ xs) most = let lt = most x (here refl) in rw (ne_eqb x.job n (λ e. omega arith)) (none_below n xs (λ y i. most y (there i)))

in_last : (y e : JobEntry) (xs : Jobs) → In y (xs ++ e ∷ []) → (In y xs) ⊎ (y ≡ e)
in_last y e [] (here is) = inr is
in_last y e [] (there i) = elim i [ ]
in_last y e (x ∷ xs) (here is) = inl (here is)
in_last y e (x ∷ xs) (there i) = ⊎_elim (λ k. inl (there k)) (λ k. inr k) (in_last y e xs i)

module _ {C : Type 0} (m : Meaning C) where
  jobs_bare : (t : Jobs) → job_entries m (bare t) ≡ job_entries m t
  jobs_bare [] = refl
  jobs_bare (x ∷ xs) = ap (λ (ss : List (Slot C)). Checkpoint (OpenJob x.job x.next) ∷ ss) (jobs_bare xs)

  job_step : (js : Jobs) (D : Dirty) (j n : ℕ) → length js < 8 → ((x : JobEntry) → In x js → x.job < j)
      → gather {C = C} 0 (Some (Checkpoint (OpenJob j n))) (tables js D) ≡ Ok (tables (js ++ new_job j n ∷ []) D)
  job_step js D j n few most = rw (lt-ltb (length js) 8 few, none_below j js most, entered_above (new_job j n) js most) refl

  gather_jobs : (js : Jobs) (D : Dirty) (t : Jobs) → Ascending t → ((x y : JobEntry) → In x js → In y t → x.job < y.job) → length js + length t ≤ 8
      → gathers (job_entries m t) (Ok (tables js D)) ≡ Ok (tables (js ++ bare t) D)
  gather_jobs js D [] a less few = ap (λ (x : Jobs). Ok (tables x D)) (sym (append-nil js))
  gather_jobs js D (x ∷ xs) a less few =
      let e = new_job x.job x.next in
      let most : (y : JobEntry) → In y js → y.job < x.job = λ y i. less y x i (here refl) in
      ap (gathers (job_entries m xs)) (job_step js D x.job x.next (omega arith) most)
      ∙ (gather_jobs (js ++ e ∷ []) D xs a.1 (λ y z i k. go y z (in_last y e js i) k) (omega (arith, length-append js (e ∷ [])))
      ∙ ap (λ (y : Jobs). Ok (tables y D)) (append_assoc js (e ∷ []) (bare xs)))
    where
      go : (y z : JobEntry) → (In y js) ⊎ (y ≡ new_job x.job x.next) → In z xs → y.job < z.job
      go y z (inl i) k = less y z i (there k)
      go y z (inr is) k = subst (λ (w : JobEntry). w.job < z.job) (sym is) (above_in x.job xs z a.0 k)

-- The end of a checkpoint over the log tells the truth

module _ {C : Type 0} (m : Meaning C) (size capacity : ℕ) (L M : Log C) (legal : Legal size capacity L) (lrcs : ℕ → ℕ)
    (same : (q : ℕ) → first_lacked q (lrcs q) M ≡ first_lacked q (lrcs q) L) (bs : List (List ℕ)) (list : Listed m M lrcs 0 bs) (jobs : Jobs) (opened : bare jobs ≡ open_jobs L) where
  abbrev b : ℕ
  b = new_number L

  abbrev entries : List (Slot C)
  entries = page_entries m M 0 bs ++ job_entries m jobs

  abbrev begun : Log C
  begun = Some (Checkpoint Begin) ∷ L

  abbrev made : Log C
  made = placed entries begun

  abbrev full : Log C
  full = Some (Checkpoint (Complete b)) ∷ made

  abbrev found : Tables
  found = tables (open_jobs L) (dirty_from m M 0 bs)

  jobs_are : job_entries m jobs ≡ job_entries m (open_jobs L)
  jobs_are = sym (jobs_bare m jobs) ∙ ap (job_entries m) opened

  gathered : gathers entries (Ok (tables [] [])) ≡ Ok found
  gathered =
      let bared : bare (open_jobs L) ≡ open_jobs L = ap bare (sym opened) ∙ (bare_bare jobs ∙ opened) in
      gathers_append (page_entries m M 0 bs) (job_entries m jobs) (Ok (tables [] []))
      ∙ (ap (gathers (job_entries m jobs)) (gather_pages m M [] [] 0 bs (λ q le. refl))
      ∙ (ap (λ (ss : List (Slot C)). gathers ss (Ok (tables [] (dirty_from m M 0 bs)))) jobs_are
      ∙ (gather_jobs m [] (dirty_from m M 0 bs) (open_jobs L) (table_ascending size capacity L legal) (λ x y i k. elim i [ ]) (omega (arith, table_few size capacity L legal))
      ∙ ap (λ (t : Jobs). Ok (tables t (dirty_from m M 0 bs))) bared)))

  scanned : scan (suc b) gather (tables [] []) (up_to (length made) full) ≡ Ok found
  scanned =
      let start : scan (suc b) gather (tables [] []) begun ≡ Ok (tables [] []) = rw (lt-ltb b (suc b) (omega arith)) refl in
      ap (scan (suc b) gather (tables [] [])) (up_to_more (length made) _ made (omega arith) ∙ up_to_all (length made) made (omega arith))
      ∙ (scan_placed (suc b) (tables [] []) entries begun (omega arith) ∙ (ap (gathers entries) start ∙ gathered))

  made_longer : b ≤ length made
  made_longer = omega (arith, placed_length entries begun)

  -- the slots up to a number of the old log
  old_part : (n : ℕ) → n ≤ length L → up_to n full ≡ up_to n L
  old_part n le = up_to_more n _ made (omega (arith, made_longer)) ∙ (placed_up_to n entries begun (omega arith) ∙ up_to_more n _ L le)

  starts : start_at full (new_number made) ≡ Ok (record { begin = b; found = found })
  starts =
      let at-end : at full (new_number made) ≡ Some (Checkpoint (Complete b)) = rw (eq-eqb (new_number made) (new_number made) refl) refl in
      let at-begin : at full b ≡ Some (Checkpoint Begin) =
      at_more b _ made made_longer ∙ (placed_at b entries begun (omega arith) ∙ rw (eq-eqb b b refl) refl) in
      cond-false _ _ _ (ne_eqb (new_number made) 0 (λ e. omega arith))
      ∙ (ap (from_end full (new_number made)) at-end
      ∙ (ap (from_begin full (new_number made) b) at-begin
      ∙ ap (λ (r : Result Tables Refusal). then r (λ t. Ok (record { begin = b; found = t }))) scanned))

  covered : Covers lrcs (dirty_from m M 0 bs) b full
  covered p = go (first_lacked p (lrcs p) L) refl (find_listed m M lrcs 0 bs list p (omega arith) ∙ ap (option_map (entry_at m M p)) (same p))
    where
      go : (o : Option ℕ) → first_lacked p (lrcs p) L ≡ o → find_page p (dirty_from m M 0 bs) ≡ option_map (entry_at m M p) o
          → count (before (start_of p (dirty_from m M 0 bs) b) full) p ≤ lrcs p
      go None e f =
          let start : start_of p (dirty_from m M 0 bs) b ≡ b = ap (λ (x : Option dirty.DirtyPage). unwrap_or (option_map (λ e. e.start) x) b) f in
          let part : before b full ≡ L = old_part (length L) (omega arith) ∙ up_to_all (length L) L (omega arith) in
          let lacks = first_lacked_none size capacity L p (lrcs p) legal e in
          omega (arith, ap (λ (n : ℕ). count (before n full) p) start, ap (λ (N : Log C). count N p) part)
      go (Some s) e f =
          let start : start_of p (dirty_from m M 0 bs) b ≡ s = ap (λ (x : Option dirty.DirtyPage). unwrap_or (option_map (λ e. e.start) x) b) f in
          let lacks = first_lacked_some size capacity L p (lrcs p) s legal e in
          let part : before s full ≡ before s L = old_part (pred s) (omega arith) in
          omega (arith, ap (λ (n : ℕ). count (before n full) p) start, ap (λ (N : Log C). count N p) part)

  end_true : Truth lrcs full (new_number made)
  end_true = record {
    start = record { begin = b; found = found };
    reads = starts;
    from = omega arith;
    until = omega (arith, made_longer);
    jobs = ap open_jobs (sym (old_part (length L) (omega arith) ∙ up_to_all (length L) L (omega arith)));
    pages = covered;
    positive = positive_from m M lrcs 0 bs list (λ q s e. (first_lacked_some size capacity L q (lrcs q) s legal (sym (same q) ∙ e)).0);
  }

-- Begin and entries fit anywhere

module _ {C : Type 0} (size n : ℕ) where
  -- what a begin or an entry names is in the store, and in a log of n slots
  abbrev Harmless : List (Slot C) → Type 0
  Harmless [] = Unit {0}
  Harmless (Record r ∷ ss) = ⊥
  Harmless (Job e j ∷ ss) = ⊥
  Harmless (Checkpoint Begin ∷ ss) = Harmless ss
  Harmless (Checkpoint (DirtyPage p s) ∷ ss) = (p < size) × (1 ≤ s) × (s ≤ n) × Harmless ss
  Harmless (Checkpoint (OpenJob j x) ∷ ss) = (1 ≤ j) × (j ≤ n) × (x ≤ n) × Harmless ss
  Harmless (Checkpoint (Complete b) ∷ ss) = ⊥

  harmless_append : (ss ts : List (Slot C)) → Harmless ss → Harmless ts → Harmless (ss ++ ts)
  harmless_append [] ts h g = g
  harmless_append (Record r ∷ ss) ts h g = absurd h
  harmless_append (Job e j ∷ ss) ts h g = absurd h
  harmless_append (Checkpoint Begin ∷ ss) ts h g = harmless_append ss ts h g
  harmless_append (Checkpoint (DirtyPage p s) ∷ ss) ts h g = (h.0, h.1, h.2, harmless_append ss ts h.3 g)
  harmless_append (Checkpoint (OpenJob j x) ∷ ss) ts h g = (h.0, h.1, h.2, harmless_append ss ts h.3 g)
  harmless_append (Checkpoint (Complete b) ∷ ss) ts h g = absurd h

  harmless_legal : (capacity : ℕ) (ss : List (Slot C)) (N : Log C) → Legal size capacity N → Exclusive N → n ≤ length N → Harmless ss → length N + owed_by N + length ss ≤ capacity
      → Legal size capacity (placed ss N) × Exclusive (placed ss N)
  harmless_legal capacity [] N l x le h room = (l, x)
  harmless_legal capacity (Record r ∷ ss) N l x le h room = absurd h
  harmless_legal capacity (Job e j ∷ ss) N l x le h room = absurd h
  harmless_legal capacity (Checkpoint Begin ∷ ss) N l x le h room =
      harmless_legal capacity ss (Some (Checkpoint Begin) ∷ N) (l, tt, room_mark size capacity N Begin (omega arith)) (x, tt) (omega arith) h (omega (arith, owed_mark N Begin))
  harmless_legal capacity (Checkpoint (DirtyPage p s) ∷ ss) N l x le h room =
      let c = DirtyPage p s in
      harmless_legal capacity ss (Some (Checkpoint c) ∷ N) (l, (h.0, h.1, omega (arith, h.2)), room_mark size capacity N c (omega arith)) (x, tt) (omega arith) h.3 (omega (arith, owed_mark N c))
  harmless_legal capacity (Checkpoint (OpenJob j k) ∷ ss) N l x le h room =
      let c = OpenJob j k in
      harmless_legal capacity ss (Some (Checkpoint c) ∷ N) (l, (h.0, omega (arith, h.1), omega (arith, h.2)), room_mark size capacity N c (omega arith)) (x, tt) (omega arith) h.3 (omega (arith, owed_mark N c))
  harmless_legal capacity (Checkpoint (Complete b) ∷ ss) N l x le h room = absurd h

  module _ (m : Meaning C) where
    pages_harmless : (M : Log C) (lrcs : ℕ → ℕ) (p : ℕ) (bs : List (List ℕ)) → Listed m M lrcs p bs → ((q s : ℕ) → first_lacked q (lrcs q) M ≡ Some s → (1 ≤ s) × (s ≤ n))
        → p + length bs ≤ size → Harmless (page_entries m M p bs)
    pages_harmless M lrcs p [] l some le = tt
    pages_harmless M lrcs p (b ∷ bs) l some le = go (first_lacked p (number_at b 0) M) (ap (λ (k : ℕ). first_lacked p k M) l.0) (pages_harmless M lrcs (suc p) bs l.1 some (omega arith))
      where
        go : (o : Option ℕ) → o ≡ first_lacked p (lrcs p) M → Harmless (page_entries m M (suc p) bs) → Harmless (page_entry m p o ++ page_entries m M (suc p) bs)
        go None e ih = ih
        go (Some s) e ih = let k = some p s (sym e) in (omega arith, k.0, k.1, ih)

    jobs_harmless : (t : Jobs) → ((x : JobEntry) → In x t → (1 ≤ x.job) × (x.job ≤ n) × (x.next ≤ n)) → Harmless (job_entries m t)
    jobs_harmless [] each = tt
    jobs_harmless (x ∷ xs) each = let k = each x (here refl) in (k.0, k.1, k.2, jobs_harmless xs (λ y i. each y (there i)))

-- The same slots the newest first

module _ {C : Type 0} where
  placed_onto : (ss : List (Slot C)) (L : Log C) → placed ss L ≡ onto (reverse ss) L
  placed_onto [] L = refl
  placed_onto (s ∷ ss) L = placed_onto ss (Some s ∷ L) ∙ sym (onto_reverse s ss L)

  last_apart : (ss : List (Slot C)) (s : Slot C) (ops : List (Op C)) → map append (ss ++ s ∷ []) ++ ops ≡ map append ss ++ append s ∷ ops
  last_apart [] s ops = refl
  last_apart (x ∷ ss) s ops = ap (λ (t : List (Op C)). append x ∷ t) (last_apart ss s ops)

  harmless_turned : (size n : ℕ) (ss ts : List (Slot C)) → Harmless size n ss → Plain ts → OnlyMarks ts → Plain (reverse_aux ss ts) × OnlyMarks (reverse_aux ss ts)
  harmless_turned size n [] ts h p o = (p, o)
  harmless_turned size n (Record r ∷ ss) ts h p o = absurd h
  harmless_turned size n (Job e j ∷ ss) ts h p o = absurd h
  harmless_turned size n (Checkpoint Begin ∷ ss) ts h p o = harmless_turned size n ss (Checkpoint Begin ∷ ts) h (tt, p) o
  harmless_turned size n (Checkpoint (DirtyPage q s) ∷ ss) ts h p o = harmless_turned size n ss (Checkpoint (DirtyPage q s) ∷ ts) h.3 (tt, p) o
  harmless_turned size n (Checkpoint (OpenJob j x) ∷ ss) ts h p o = harmless_turned size n ss (Checkpoint (OpenJob j x) ∷ ts) h.3 (tt, p) o
  harmless_turned size n (Checkpoint (Complete b) ∷ ss) ts h p o = absurd h

-- A serving server's checkpoint

-- all its slots but the end
abbrev body : {C : Type 0} → Meaning C → Devices → Working → List (Slot C)
body m d s = Checkpoint Begin ∷ (page_entries m (log_read m d s) 0 d.pages.pages ++ job_entries m s.jobs)

module _ {C : Type 0} (m : Meaning C) (h : Ledger C) (d : Devices) (s : Working) (k : Kept m h d) (v : Serving m d s) where
  lacked_same : (q : ℕ) → first_lacked q (stored_lrcs m d q) (log_read m d s) ≡ first_lacked q (stored_lrcs m d q) (whole m d)
  lacked_same q = ap (first_lacked q (stored_lrcs m d q)) (read_masked m d s k.durable v)
      ∙ first_lacked_masked (size d) d.log.capacity s.first (whole m d) q (stored_lrcs m d q) k.durable.legal (v.first.covers q)

  lacked_beyond : (q : ℕ) → size d ≤ q → first_lacked q (stored_lrcs m d q) (log_read m d s) ≡ None
  lacked_beyond q le = go (first_lacked q (stored_lrcs m d q) (whole m d)) refl (lacked_same q)
    where
      go : (o : Option ℕ) → first_lacked q (stored_lrcs m d q) (whole m d) ≡ o → first_lacked q (stored_lrcs m d q) (log_read m d s) ≡ first_lacked q (stored_lrcs m d q) (whole m d)
          → first_lacked q (stored_lrcs m d q) (log_read m d s) ≡ None
      go None e w = w ∙ e
      go (Some x) e w = absurd (omega (
        arith,
        first_lacked_lower (size d) d.log.capacity (whole m d) q (stored_lrcs m d q) x k.durable.legal e,
        count_inside (size d) d.log.capacity (whole m d) q k.durable.legal le,
      ))

  stored_listed : Listed m (log_read m d s) (stored_lrcs m d) 0 d.pages.pages
  stored_listed = listed m (log_read m d s) (stored_lrcs m d) 0 d.pages.pages (λ i. ap (stored_lrcs m d) (omega arith)) (λ q le. lacked_beyond q (omega arith))

  job_fits : (x : JobEntry) → In x (open_jobs (whole m d)) → (1 ≤ x.job) × (x.job ≤ length (whole m d)) × (x.next ≤ length (whole m d))
  job_fits x i =
      let e = table_entry (size d) d.log.capacity (whole m d) x k.durable.legal i in
      let old = open_old (size d) d.log.capacity (whole m d) x.job k.durable.legal e.0 in
      let is : x.next ≡ top_number (pending (whole m d) x.job) = ap (λ (y : JobEntry). y.next) e.1 ∙ next_top (size d) d.log.capacity (whole m d) x.job k.durable.legal in
      (old.0, old.1, omega (arith, is, go (pending (whole m d) x.job) refl))
    where
      go : (xs : List (Numbered C)) → pending (whole m d) x.job ≡ xs → top_number xs ≤ length (whole m d)
      go [] e = omega arith
      go (y ∷ ys) e = (pending_at (size d) d.log.capacity (whole m d) x.job y k.durable.legal (subst (In y) (sym e) (here refl))).within

  body_harmless : Harmless (size d) (length (whole m d)) (body m d s)
  body_harmless = harmless_append (size d) (length (whole m d)) (page_entries m (log_read m d s) 0 d.pages.pages) (job_entries m s.jobs)
      (pages_harmless (size d) (length (whole m d)) m (log_read m d s) (stored_lrcs m d) 0 d.pages.pages stored_listed
      (λ q x e. let y = first_lacked_some (size d) d.log.capacity (whole m d) q (stored_lrcs m d q) x k.durable.legal (sym (lacked_same q) ∙ e) in (y.0, y.1)) (omega arith))
      (subst (Harmless (size d) (length (whole m d))) (jobs_bare m s.jobs) (subst (λ (t : Jobs). Harmless (size d) (length (whole m d)) (job_entries m t)) (sym v.jobs)
      (jobs_harmless (size d) (length (whole m d)) m (open_jobs (whole m d)) job_fits)))

module _ {C : Type 0} (m : Meaning C) (law : Lawful m) where
  module _ (h : Ledger C) (d : Devices) (s : Working) (k : Kept m h d) (st : Stage m h d (serving s)) (enough : has_room m d s (length (checkpoint_slots m d s)) ≡ true) where
    abbrev L : Log C
    L = whole m d

    abbrev older : List (Slot C)
    older = reverse (body m d s)

    abbrev ending : Slot C
    ending = Checkpoint (Complete (next_slot d))

    number : next_slot d ≡ new_number L
    number = ap suc (sym (whole_length m d))

    quiet : Plain older × OnlyMarks older
    quiet = harmless_turned (size d) (length L) (body m d s) [] (body_harmless m h d s k st.1) tt tt

    in_order : checkpoint_slots m d s ≡ body m d s ++ ending ∷ []
    in_order = ap (λ (ss : List (Slot C)). Checkpoint Begin ∷ ss) (sym (append_assoc (page_entries m (log_read m d s) 0 d.pages.pages) (job_entries m s.jobs) (ending ∷ [])))

    room : length L + owed_by L + suc (length (body m d s)) ≤ d.log.capacity
    room = omega (arith, room_read m d s k.durable st.1 _ enough, ap length in_order, length-append (body m d s) (ending ∷ []))

    older_legal : Legal (size d) d.log.capacity (onto older L) × Exclusive (onto older L)
    older_legal = subst (λ (K : Log C). Legal (size d) d.log.capacity K × Exclusive K) (placed_onto (body m d s) L)
        (harmless_legal (size d) (length L) d.log.capacity (body m d s) L k.durable.legal k.durable.exclusive (omega arith) (body_harmless m h d s k st.1) (omega (arith, room)))

    older_length : length (onto older L) ≡ length (body m d s) + length L
    older_length = ap length (sym (placed_onto (body m d s) L)) ∙ placed_length (body m d s) L

    legal : Legal (size d) d.log.capacity (onto (ending ∷ older) L)
    legal = (
      older_legal.0,
      (omega arith, omega (arith, number, older_length)),
      room_mark (size d) d.log.capacity (onto older L) (Complete (next_slot d)) (omega (arith, room, older_length, marks_same owed_by (λ c M. owed_mark M c) older L quiet.1)),
    )

    honest : Honests h (stored_lrcs m d) (ending ∷ older) L
    honest = (
      subst (λ (n : ℕ). Truth (stored_lrcs m d) (Some (Checkpoint (Complete n)) ∷ onto older L) (new_number (onto older L))) (sym number)
          (subst (λ (K : Log C). Truth (stored_lrcs m d) (Some (Checkpoint (Complete (new_number L))) ∷ K) (new_number K)) (placed_onto (body m d s) L)
          (end_true m (size d) d.log.capacity L (log_read m d s) k.durable.legal (stored_lrcs m d) (lacked_same m h d s k st.1) d.pages.pages
          (stored_listed m h d s k st.1) s.jobs st.1.jobs)),
      plain_honest h (stored_lrcs m d) older L quiet.0,
    )

    abbrev ops : List (Op C)
    ops = appends (ending ∷ older) (force ∷ [])

    ops_are : map append (checkpoint_slots m d s) ++ force ∷ [] ≡ ops
    ops_are = ap (λ (ss : List (Slot C)). map append ss ++ force ∷ []) in_order
        ∙ (last_apart (body m d s) ending (force ∷ []) ∙ appended_in_order (body m d s) (append ending ∷ force ∷ []))

    safe : SafeOps m h ops d
    safe = safe_honest m law h (ending ∷ older) (force ∷ []) d k honest legal (older_legal.1, tt) (λ e g k'. (tt, λ f x. tt))

    staged : (e : Devices) → Dids m ops d e → Kept m h e → Stage m h e (serving s)
    staged e ds k' = let y = dids_honest m law h (ending ∷ older) (force ∷ []) d e k honest legal (older_legal.1, tt) ds in go y.0 y.1 y.3
      where
        go : (c : Devices) → Grown m (ending ∷ older) d c → Dids m (force ∷ []) c e → Stage m h e (serving s)
        go c g (next x none) =
            let f = did_force m law c e x in
            let pages = f.pages ∙ g.pages in
            let lrcs : (q : ℕ) → stored_lrcs m e q ≡ stored_lrcs m d q = λ q. ap (λ (z : PageModel). number_at (get_or z.pages q (replicate 256 0)) 0) pages in
            stage_on m h d e s (ending ∷ older) quiet.1 (f.log ∙ g.log) (ap (λ (z : PageModel). length z.pages) pages)
            (omega (arith, g.raised, g.held, f.all, ap length f.slots))
            (record { pages = ap (λ (z : PageModel). z.powered) pages ∙ st.1.power.pages; log = f.power })
            (λ q. omega (arith, lrcs q)) (λ q. omega (arith, lrcs q, (st.1.copies q).above)) st

  pub checkpoint_good : (h : Ledger C) (d : Devices) (s : Working) (r : Result ℕ Refusal) (v : World)
      → Kept m h d → Stage m h d (serving s) → Does m (checkpoint_in m d s) (record { devices = d; memory = serving s }) r v
      → Good m (told_service m checkpoints r h) v
  checkpoint_good h d s r v k st x = asked m (λ r v. Good m (told r) v) (record { kept = k; stage = st })
      (λ enough y. ended_good m told h answer (serving s) (ops h d s k st enough) d r v (λ why n. refl)
      (λ ds k'. record { kept = k'; stage = staged h d s k st enough v.devices ds k' })
      (performed_safe m law h answer (serving s) (ops h d s k st enough) d r v k (safe h d s k st enough)
      (subst (λ (t : List (Op C)). Performed m answer (serving s) t d r v) (ops_are h d s k st enough) (performing m y)))) x
    where
      told : Result ℕ Refusal → Ledger C
      told r = told_service m checkpoints r h

      answer : Result ℕ Refusal
      answer = Ok (log_length d + length (checkpoint_slots m d s))
