-- Analysis over any log: where it is accepted every slot from its first on fits, and redo will read every record that it read.
use Rattle.std.proofs.Common.{◌≡◌, ℕ, suc, pred, ◌<◌, ◌≤◌, max, Bool, true, false, cond, eqb, ◌⊎◌, [], ◌∷◌, length, is_some, Some, None, Ok, Option, sym, refl, subst, inl, inr, ⊎_elim, arith}
use Rattle.std.proofs.lemmas.Bool.{cases_eq, cases_order, eqb-true}
use Rattle.format.specs.declared.slot.Slot.{Slot}
use Rattle.format.specs.declared.slot.Slot.TheVariants.{Record, Job, Checkpoint}
use Rattle.format.specs.declared.slot.JobEvent.TheVariants.{Open, Commit, End}
use Rattle.format.specs.declared.slot.CheckpointPart.{CheckpointPart}
use Rattle.format.specs.declared.slot.CheckpointPart.TheVariants.{Begin, DirtyPage, OpenJob, Complete}
use Rattle.format.specs.Changes.{Meaning, Lawful}
use Rattle.recovery_log.specs.Log.{Log, new_number, next_by}
use Rattle.rules.specs.Reading.{at, up_to, scan}
use Rattle.rules.specs.Restart.{Tables, tables, gather, analyse, Start, from_begin, from_end, start_at, found_from, found_in}
use Rattle.rules.specs.State.{Found}
use Rattle.rules.specs.Service.{has_place}
use Rattle.rules.specs.Tables.{Jobs, new_job, entered, is_job, with_next, without_job, find_page, with_dirty, least_start}
use Rattle.promises.proofs.AnyDevicesSlots.{Each, each_at, each_more, Fits, event_inside, dirty_inside, open_inside}
use Rattle.promises.proofs.AnyDevicesStages.{All, Named, There, OfRecord, Starts}
use Rattle.promises.proofs.Cuts.{length_up_to, at_up_to}
use Rattle.promises.proofs.AnyDevicesScans.{clash, ok_cond, ok_unless, ok_same, ok_then, scanned, each_all, each_and, each_up_to, each_by_at, at_inside, of_each, of_more, all_more, named_next, named_without, named_entered, later_named, Within, later_within, Begun, begun_dirty, begun_own, all_dirty, least_begun}

module _ {C : Type 0} where
  -- no record stands between these numbers
  abbrev Apart : ℕ → ℕ → ℕ → Option (Slot C) → Type 0
  Apart b e n x = OfRecord (λ r. b ≤ n → e < n) x

  -- what is gathered between a checkpoint's begin and its end
  record Gathered (b : ℕ) (M : Log C) (t : Tables) : Type 0 where
    parts : Each (Apart (suc b) (length M)) M
    jobs : All (Named (length M)) t.jobs
    dirty : All (Within (length M)) t.dirty

  module _ (m : Meaning C) (law : Lawful m) (size b : ℕ) where
    -- a part that is read; the tables only grow
    gathered_more : (c : CheckpointPart) (M : Log C) (s t : Tables) → Gathered b M s → All (Named (new_number M)) t.jobs
        → All (Within (new_number M)) t.dirty → Gathered b (Some (Checkpoint c) ∷ M) t
    gathered_more c M s t g jobs dirty = record {
      parts = (
        tt,
        each_more (Apart (suc b) (length M)) (Apart (suc b) (suc (length M))) M
            (λ n x le h. of_more (λ r. suc b ≤ n → length M < n) (λ r. suc b ≤ n → suc (length M) < n) x (λ r k low. let z = k low in absurd (omega arith)) h) g.parts,
      );
      jobs = jobs;
      dirty = dirty;
    }

    gather_step : (x : Option (Slot C)) (M : Log C) (s t : Tables) → suc b ≤ new_number M → Fits m law size (new_number M) x → Gathered b M s
        → gather (new_number M) x s ≡ Ok t → Gathered b (x ∷ M) t
    gather_step None M s t le h g e = clash _ t e
    gather_step (Some (Record r)) M s t le h g e = clash _ t e
    gather_step (Some (Job v j)) M s t le h g e = clash _ t e
    gather_step (Some (Checkpoint Begin)) M s t le h g e = clash _ t e
    gather_step (Some (Checkpoint (DirtyPage p k))) M s t le h g e =
        let q = ok_unless (is_some (find_page p s.dirty)) (Ok (tables s.jobs (with_dirty p k s.dirty))) _ t e in
        let i = dirty_inside m size (new_number M) p k h in
        let one = i.0 in
        let low = i.1 in
        subst (Gathered b (Some (Checkpoint (DirtyPage p k)) ∷ M)) (ok_same _ t q.1) (gathered_more (DirtyPage p k) M s (tables s.jobs (with_dirty p k s.dirty)) g
        (later_named (length M) (new_number M) s.jobs (omega arith) g.jobs)
        (all_dirty (Within (new_number M)) p k s.dirty (one, omega arith) (later_within (length M) (new_number M) s.dirty (omega arith) g.dirty)))
    gather_step (Some (Checkpoint (OpenJob j k))) M s t le h g e =
        let u = ok_cond (has_place s.jobs) _ _ t e in
        let q = ok_unless (is_job j s.jobs) (Ok (tables (entered (new_job j k) s.jobs) s.dirty)) _ t u.1 in
        subst (Gathered b (Some (Checkpoint (OpenJob j k)) ∷ M)) (ok_same _ t q.1) (gathered_more (OpenJob j k) M s (tables (entered (new_job j k) s.jobs) s.dirty) g
        (named_entered (new_number M) (new_job j k) s.jobs (open_inside m size (new_number M) j k h) (later_named (length M) (new_number M) s.jobs (omega arith) g.jobs))
        (later_within (length M) (new_number M) s.dirty (omega arith) g.dirty))
    gather_step (Some (Checkpoint (Complete a))) M s t le h g e = clash _ t e

    gathered : (M : Log C) (t : Tables) → Each (Fits m law size) M → scan (suc b) gather (tables [] []) M ≡ Ok t → Gathered b M t
    gathered M t h e = scanned (suc b) gather (tables [] []) (Fits m law size) (Gathered b) (omega arith)
        (λ N lt. record {
          parts = each_all (Apart (suc b) (length N)) N (λ n x le. of_each (λ r. suc b ≤ n → length N < n) x (λ r low. absurd (omega arith)));
          jobs = tt;
          dirty = tt;
        }) gather_step M t h e

  -- Where analysis begins

  record BegunAt (L : Log C) (e : ℕ) (s : Start) : Type 0 where
    one : 1 ≤ s.begin
    until : s.begin ≤ suc (length L)
    jobs : All (Named (length L)) s.found.jobs
    dirty : All (Within e) s.found.dirty
    apart : Each (Apart s.begin e) L

  module _ (m : Meaning C) (law : Lawful m) (size : ℕ) (L : Log C) (fit : Each (Fits m law size) L) (e : ℕ) (s : Start) where
    -- between the begin and the end of the checkpoint there are no records
    apart_at : (b : ℕ) (t : Tables) → at L e ≡ Some (Checkpoint (Complete b)) → at L b ≡ Some (Checkpoint Begin) → e ≤ length L → Gathered b (up_to (pred e) L) t
        → (n : ℕ) → 1 ≤ n → n ≤ length L → Apart b e n (at L n)
    apart_at b t end begin low g n one le = ⊎_elim after (λ x. ⊎_elim (λ same. subst (λ k. Apart b e k (at L k)) (sym same) (rw end tt)) inside x) (three (cases_order n e))
      where
        three : (n ≡ e) ⊎ ((n < e) ⊎ (e < n)) → (e < n) ⊎ ((n ≡ e) ⊎ (n < e))
        three (inl x) = inr (inl x)
        three (inr (inl x)) = inr (inr x)
        three (inr (inr x)) = inl x

        after : e < n → Apart b e n (at L n)
        after lt = of_each (λ r. b ≤ n → e < n) (at L n) (λ r k. lt)

        long : length (up_to (pred e) L) ≡ pred e
        long = length_up_to (pred e) L (omega arith)

        inside : n < e → Apart b e n (at L n)
        inside lt = ⊎_elim
            (λ same. subst (λ k. Apart b e k (at L k)) (sym same) (rw begin tt))
            (λ other. of_more (λ r. suc b ≤ n → length (up_to (pred e) L) < n) (λ r. b ≤ n → e < n) (at L n)
            (λ r h ge. let z = h (omega (arith, other)) in absurd (omega (arith, long)))
            (subst (Apart (suc b) (length (up_to (pred e) L)) n) (at_up_to (pred e) n L (omega arith))
            (each_at (Apart (suc b) (length (up_to (pred e) L))) (up_to (pred e) L) n g.parts one (omega (arith, long)))))
            (cases_eq n b)

    begun_from : (b : ℕ) (x : Option (Slot C)) → at L e ≡ Some (Checkpoint (Complete b)) → at L b ≡ x → from_begin L e b x ≡ Ok s → BegunAt L e s
    begun_from b None end at_b r = clash _ s r
    begun_from b (Some (Record c)) end at_b r = clash _ s r
    begun_from b (Some (Job v j)) end at_b r = clash _ s r
    begun_from b (Some (Checkpoint Begin)) end at_b r =
        let q = ok_then (scan (suc b) gather (tables [] []) (up_to (pred e) L)) (λ t. Ok (record { begin = b; found = t })) s r in
        let t = q.0 in
        let g = gathered m law size b (up_to (pred e) L) t (each_up_to (Fits m law size) (pred e) L fit) q.1 in
        let ends = at_inside L e _ end in
        let begins = at_inside L b _ at_b in
        let one = begins.0 in
        let low = begins.1 in
        let from_one = ends.0 in
        let to_end = ends.1 in
        let long : length (up_to (pred e) L) ≡ pred e = length_up_to (pred e) L (omega arith) in
        subst (BegunAt L e) (ok_same _ s q.2) (record {
          one = one;
          until = omega arith;
          jobs = later_named (length (up_to (pred e) L)) (length L) t.jobs (omega arith) g.jobs;
          dirty = later_within (length (up_to (pred e) L)) e t.dirty (omega arith) g.dirty;
          apart = each_by_at (Apart b e) L (apart_at b t end at_b to_end g);
        })
    begun_from b (Some (Checkpoint (DirtyPage p k))) end at_b r = clash _ s r
    begun_from b (Some (Checkpoint (OpenJob j k))) end at_b r = clash _ s r
    begun_from b (Some (Checkpoint (Complete a))) end at_b r = clash _ s r

    begun_end : (x : Option (Slot C)) → at L e ≡ x → from_end L e x ≡ Ok s → BegunAt L e s
    begun_end None at-e r = clash _ s r
    begun_end (Some (Record c)) at-e r = clash _ s r
    begun_end (Some (Job v j)) at-e r = clash _ s r
    begun_end (Some (Checkpoint Begin)) at-e r = clash _ s r
    begun_end (Some (Checkpoint (DirtyPage p k))) at-e r = clash _ s r
    begun_end (Some (Checkpoint (OpenJob j k))) at-e r = clash _ s r
    begun_end (Some (Checkpoint (Complete b))) at-e r = begun_from b (at L b) at-e refl r

    begun : start_at L e ≡ Ok s → BegunAt L e s
    begun r = go (eqb e 0) refl r
      where
        go : (b : Bool) → eqb e 0 ≡ b → cond b (Ok (record { begin = 1; found = tables [] [] })) (from_end L e (at L e)) ≡ Ok s → BegunAt L e s
        go true q r = let z = eqb-true e 0 q in subst (BegunAt L e) (ok_same _ s r) (record {
          one = omega arith;
          until = omega arith;
          jobs = tt;
          dirty = tt;
          apart = each_all (Apart 1 e) L (λ n x le. of_each (λ c. 1 ≤ n → e < n) x (λ c k. omega arith));
        })
        go false q r = begun_end (at L e) refl r

  -- What analysis finds

  record FoundBy (b e N : ℕ) (M : Log C) (t : Tables) : Type 0 where
    there : Each (There b) M
    jobs : All (Named N) t.jobs
    dirty : All (Within (max e (length M))) t.dirty
    starts : Each (λ n x. OfRecord (λ r. b ≤ n → Begun n t.dirty) x) M

  module _ (m : Meaning C) (law : Lawful m) (size b e N : ℕ) where
    abbrev SlotFacts : ℕ → Option (Slot C) → Type 0
    SlotFacts n x = (Fits m law size n x × (n ≤ N)) × Apart b e n x

    -- a slot that is no record
    found_more : (s : Slot C) (M : Log C) (t : Tables) (jobs : Jobs) → FoundBy b e N M t → All (Named N) jobs
        → OfRecord (λ r. b ≤ new_number M → Begun (new_number M) t.dirty) (Some s) → FoundBy b e N (Some s ∷ M) (tables jobs t.dirty)
    found_more s M t jobs g h k = record {
      there = (λ le. refl, g.there);
      jobs = h;
      dirty = later_within (max e (length M)) (max e (new_number M)) t.dirty (omega arith) g.dirty;
      starts = (k, g.starts);
    }

    analyse_step : (x : Option (Slot C)) (M : Log C) (s t : Tables) → b ≤ new_number M → SlotFacts (new_number M) x → FoundBy b e N M s
        → analyse (new_number M) x s ≡ Ok t → FoundBy b e N (x ∷ M) t
    analyse_step None M s t le f g q = clash _ t q
    analyse_step (Some (Record r)) M s t le f g q =
        let n = new_number M in
        let late : e < n = f.1 le in
        let p = ok_cond (is_job r.job s.jobs) (Ok (tables (with_next r.job (next_by r.action n r.link) s.jobs) (with_dirty r.page n s.dirty))) _ t q in
        subst (FoundBy b e N (Some (Record r) ∷ M)) (ok_same _ t p.1) (record {
          there = (λ le. refl, g.there);
          jobs = named_next N r.job (next_by r.action n r.link) s.jobs g.jobs;
          dirty = all_dirty (Within (max e n)) r.page n s.dirty (omega arith, omega arith)
              (later_within (max e (length M)) (max e n) s.dirty (omega arith) g.dirty);
          starts = (
            λ le. begun_own n r.page s.dirty (later_within (max e (length M)) n s.dirty (omega arith) g.dirty),
            each_more (λ k x. OfRecord (λ c. b ≤ k → Begun k s.dirty) x) (λ k x. OfRecord (λ c. b ≤ k → Begun k (with_dirty r.page n s.dirty)) x) M
                (λ k x low h. of_more (λ c. b ≤ k → Begun k s.dirty) (λ c. b ≤ k → Begun k (with_dirty r.page n s.dirty)) x
                (λ c h ge. begun_dirty k r.page n s.dirty (h ge)) h) g.starts,
          );
        })
    analyse_step (Some (Job Open j)) M s t le f g q =
        let p = ok_cond (has_place s.jobs) (Ok (tables (entered (new_job j 0) s.jobs) s.dirty)) _ t q in
        let i = event_inside m size (new_number M) Open j f.0.0 in
        let one = i.0 in
        let low = i.1 in
        let most = f.0.1 in
        subst (FoundBy b e N (Some (Job Open j) ∷ M)) (ok_same _ t p.1)
        (found_more (Job Open j) M s (entered (new_job j 0) s.jobs) g (named_entered N (new_job j 0) s.jobs (one, omega arith) g.jobs) tt)
    analyse_step (Some (Job Commit j)) M s t le f g q =
        let p = ok_cond (is_job j s.jobs) (Ok (tables (without_job j s.jobs) s.dirty)) _ t q in
        subst (FoundBy b e N (Some (Job Commit j) ∷ M)) (ok_same _ t p.1)
        (found_more (Job Commit j) M s (without_job j s.jobs) g (named_without N j s.jobs g.jobs) tt)
    analyse_step (Some (Job End j)) M s t le f g q =
        let p = ok_cond (is_job j s.jobs) (Ok (tables (without_job j s.jobs) s.dirty)) _ t q in
        subst (FoundBy b e N (Some (Job End j) ∷ M)) (ok_same _ t p.1)
        (found_more (Job End j) M s (without_job j s.jobs) g (named_without N j s.jobs g.jobs) tt)
    analyse_step (Some (Checkpoint c)) M s t le f g q = subst (FoundBy b e N (Some (Checkpoint c) ∷ M)) (ok_same _ t q) (found_more (Checkpoint c) M s s.jobs g g.jobs tt)

  pub record Finds (L : Log C) (f : Found) : Type 0 where
    pub one : 1 ≤ f.first
    pub until : f.first ≤ suc (length L)
    pub there : Each (There f.first) L
    pub jobs : All (Named (length L)) f.jobs
    pub starts : Each (Starts f.first (least_start f.dirty)) L

  module _ (m : Meaning C) (law : Lawful m) (size : ℕ) (L : Log C) (fit : Each (Fits m law size) L) (e : ℕ) where
    found_start : (s : Start) (t : Tables) → BegunAt L e s → scan s.begin analyse s.found L ≡ Ok t → FoundBy s.begin e (length L) L t
    found_start s t g q =
        let b = s.begin in
        scanned b analyse s.found (SlotFacts m law size b e (length L)) (FoundBy b e (length L)) g.one
        (λ M lt. record {
          there = each_all (There b) M (λ n x le ge. absurd (omega arith));
          jobs = g.jobs;
          dirty = later_within e (max e (length M)) s.found.dirty (omega arith) g.dirty;
          starts = each_all (λ n x. OfRecord (λ r. b ≤ n → Begun n s.found.dirty) x) M (λ n x le. of_each (λ r. b ≤ n → Begun n s.found.dirty) x (λ r ge. absurd (omega arith)));
        }) (analyse_step m law size b e (length L)) L t
        (each_and (λ n x. Fits m law size n x × (n ≤ length L)) (Apart b e) L (each_more (Fits m law size) (λ n x. Fits m law size n x × (n ≤ length L)) L (λ n x le h. (h, le)) fit) g.apart) q

    pub finds : (f : Found) → found_in L e ≡ Ok f → Finds L f
    finds f r =
        let p = ok_then (start_at L e) (found_from L) f r in
        let s = p.0 in
        let q = ok_then (scan s.begin analyse s.found L) (λ t. Ok (record { jobs = t.jobs; dirty = t.dirty; first = s.begin })) f p.2 in
        let t = q.0 in
        let g = begun m law size L fit e s p.1 in
        let k = found_start s t g q.1 in
        let ones = all_more (Within (max e (length L))) (λ y. 1 ≤ y.start) t.dirty (λ y h. h.0) k.dirty in
        subst (Finds L) (ok_same _ f q.2) (record {
          one = g.one;
          until = g.until;
          there = k.there;
          jobs = k.jobs;
          starts = each_more (λ n x. OfRecord (λ r. s.begin ≤ n → Begun n t.dirty) x) (Starts s.begin (least_start t.dirty)) L
              (λ n x le h. of_more (λ r. s.begin ≤ n → Begun n t.dirty) (λ r. s.begin ≤ n → (1 ≤ least_start t.dirty) × (least_start t.dirty ≤ n)) x
              (λ r h ge. least_begun n t.dirty (h ge) ones) h) k.starts;
        })
