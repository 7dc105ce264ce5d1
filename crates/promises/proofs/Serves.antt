-- What a serving server goes by is the whole log's: what it reads of it, its table of jobs, what is owed, and the last LRCs. Assumes nothing.
use Rattle.std.proofs.Common.{◌≡◌, ℕ, suc, pred, ◌+◌, ◌≤◌, Bool, true, false, cond, ◌&&◌, eqb, ltb, List, [], ◌∷◌, length, get_or, replicate, is_some, Some, None, Err, Result, sym, refl, ap, ◌∙◌, subst, ap₂, arith}
use Rattle.std.proofs.lemmas.Bool.{ltb-true, leb-true, eq-eqb, ne_eqb}
use Rattle.format.specs.declared.page.Page.{Page}
use Rattle.format.specs.declared.slot.Slot.TheVariants.{Record, Job, Checkpoint}
use Rattle.format.specs.Changes.{Meaning}
use Rattle.format.specs.Pages.{page_of}
use Rattle.device.specs.PageStores.{PageModel}
use Rattle.recovery_log.specs.Log.{Log, new_number, is_open, next, Numbered, pending, pending_by}
use Rattle.rules.specs.declared.table.JobEntry.{JobEntry}
use Rattle.rules.specs.declared.refusal.Refusal.{Refusal}
use Rattle.rules.specs.Ledger.{Ledger, Entry}
use Rattle.rules.specs.Numbers.{number_of}
use Rattle.rules.specs.Plans.{Op, performs, Does, performed, done}
use Rattle.rules.specs.Playing.{lacks, last_lrc}
use Rattle.rules.specs.Reading.{up_to}
use Rattle.rules.specs.Restart.{whole}
use Rattle.rules.specs.Service.{copy_of, log_read, last_of, has_room}
use Rattle.rules.specs.State.{Devices, Memory, World, Working, size, slots}
use Rattle.rules.specs.Tables.{Jobs, find_job, is_job, next_of, held_by, is_held, owed}
use Rattle.promises.proofs.Decoded.{known_masked, whole_length, length_masked}
use Rattle.promises.proofs.Invariants.{bare, before, entries_by, stored_lrcs, Durable, Kept, First, Copy, Serving, Stage, Good}
use Rattle.promises.proofs.JobLaws.{open_old, table_has, table_next, table_ascending}
use Rattle.promises.proofs.JobTables.{Above, Ascending}
use Rattle.promises.proofs.Legal.{count, image, open_jobs, owed_by, Legal, masked, Older, same, more}
use Rattle.promises.proofs.Membership.{In, here, there}
use Rattle.promises.proofs.OwedLaws.{room_now}
use Rattle.promises.proofs.Images.{image_older}
use Rattle.promises.proofs.PageCounts.{count_older, up_to_less, last_masked, lacks_masked}
use Rattle.promises.proofs.Safety.{Dids, Ended, all_done, lost}
use Rattle.promises.proofs.TableLaws.{bare_has, bare_next, Distinct, distinct_from_bare}

-- Slots that are not read are of no job that is still open

module _ {C : Type 0} (size capacity : ℕ) where
  pub pending_masked : (first : ℕ) (L : Log C) (j : ℕ) → Legal size capacity L → first ≤ j → pending (masked first L) j ≡ pending L j
  pending_masked first [] j h le = refl
  pending_masked first (None ∷ L) j h le = absurd h.1
  pending_masked first (Some (Record r) ∷ L) j h le = go (ltb (new_number L) first) refl (pending_masked first L j h.0 le)
    where
      go : (t : Bool) → ltb (new_number L) first ≡ t → pending (masked first L) j ≡ pending L j → pending (cond t None (Some (Record r)) ∷ masked first L) j ≡ pending (Some (Record r) ∷ L) j
      go true e k =
          let old = open_old size capacity L r.job h.0 h.1.opened in
          let lt = ltb-true _ _ e in
          rw (ne_eqb r.job j (λ q. omega arith)) k
      go false e k = ap₂ (λ (n : ℕ) (xs : List (Numbered C)). cond (eqb r.job j) (pending_by r.action (record { number = suc n; record' = r }) xs) xs) (length_masked first L) k
  pending_masked first (Some (Job e i) ∷ L) j h le = go (ltb (new_number L) first) (pending_masked first L j h.0 le)
    where
      go : (t : Bool) → pending (masked first L) j ≡ pending L j → pending (cond t None (Some (Job e i)) ∷ masked first L) j ≡ pending L j
      go true k = k
      go false k = k
  pending_masked first (Some (Checkpoint c) ∷ L) j h le = go (ltb (new_number L) first) (pending_masked first L j h.0 le)
    where
      go : (t : Bool) → pending (masked first L) j ≡ pending L j → pending (cond t None (Some (Checkpoint c)) ∷ masked first L) j ≡ pending L j
      go true k = k
      go false k = k

-- Tables

ascending_lacks : (n : ℕ) (t : Jobs) → Above n t → is_job n t ≡ false
ascending_lacks n [] a = refl
ascending_lacks n (x ∷ xs) a = let lt = a.0 in rw (ne_eqb x.job n (λ q. omega arith)) (ascending_lacks n xs a.1)

pub ascending_distinct : (t : Jobs) → Ascending t → Distinct t
ascending_distinct [] a = tt
ascending_distinct (x ∷ xs) a = (ascending_lacks x.job xs a.0, ascending_distinct xs a.1)

pub in_is_job : (x : JobEntry) (t : Jobs) → In x t → is_job x.job t ≡ true
in_is_job x [] i = elim i [ ]
in_is_job x (y ∷ ys) (here q) = rw (eq-eqb y.job x.job (ap (λ (e : JobEntry). e.job) (sym q)))
in_is_job x (y ∷ ys) (there i) = go (eqb y.job x.job) (in_is_job x ys i)
  where
    go : (t : Bool) → is_job x.job ys ≡ true → is_some (cond t (Some y) (find_job x.job ys)) ≡ true
    go true k = refl
    go false k = k

-- what is owed goes by the jobs' numbers only
module _ {C : Type 0} where
  pub owed_bare : (L : Log C) (t : Jobs) → owed L (bare t) ≡ owed L t
  owed_bare L [] = refl
  owed_bare L (x ∷ xs) = ap (λ (n : ℕ). suc (length (pending L x.job)) + n) (owed_bare L xs)

  pub owed_alike : (L M : Log C) (t : Jobs) → ((x : JobEntry) → In x t → pending L x.job ≡ pending M x.job) → owed L t ≡ owed M t
  owed_alike L M [] e = refl
  owed_alike L M (x ∷ xs) e = ap₂ (λ (xs : List (Numbered C)) (n : ℕ). suc (length xs) + n) (e x (here refl)) (owed_alike L M xs (λ y i. e y (there i)))

-- A serving server

module _ {C : Type 0} (m : Meaning C) (d : Devices) (s : Working) (dur : Durable m d) (sv : Serving m d s) where
  pub read_masked : log_read m d s ≡ masked s.first (whole m d)
  read_masked = known_masked m (size d) s.first (slots d)

  pub job_open : (j : ℕ) → is_job j s.jobs ≡ is_open (whole m d) j
  job_open j = sym (bare_has j s.jobs) ∙ (ap (is_job j) sv.jobs ∙ table_has (size d) d.log.capacity (whole m d) j dur.legal)

  pub job_next : (j : ℕ) → is_open (whole m d) j ≡ true → next_of j s.jobs ≡ next (whole m d) j
  job_next j o = sym (bare_next j s.jobs) ∙ (ap (next_of j) sv.jobs ∙ table_next (size d) d.log.capacity (whole m d) j dur.legal o)

  pub jobs_distinct : Distinct s.jobs
  jobs_distinct = distinct_from_bare s.jobs (subst Distinct (sym sv.jobs) (ascending_distinct _ (table_ascending (size d) d.log.capacity (whole m d) dur.legal)))

  -- the copy has every record that is not read
  pub copy_covers : (p : ℕ) → count (before s.first (whole m d)) p ≤ (copy_of s.copies p).lrc
  copy_covers p = let a = sv.first.covers p in let b = (sv.copies p).above in omega arith

  pub last_is_count : (p : ℕ) → last_of m d s p ≡ count (whole m d) p
  last_is_count p = ap (last_lrc p (copy_of s.copies p).lrc) read_masked
      ∙ last_masked (size d) d.log.capacity s.first (whole m d) p (copy_of s.copies p).lrc dur.legal (copy_covers p) (sv.copies p).below

  pub lacks_is : (p : ℕ) → lacks p (copy_of s.copies p).lrc (log_read m d s) ≡ ltb (copy_of s.copies p).lrc (count (whole m d) p)
  lacks_is p = ap (lacks p (copy_of s.copies p).lrc) read_masked
      ∙ lacks_masked (size d) d.log.capacity s.first (whole m d) p (copy_of s.copies p).lrc dur.legal (copy_covers p)

  pub owed_read : owed (log_read m d s) s.jobs ≡ owed_by (whole m d)
  owed_read = ap (λ (L : Log C). owed L s.jobs) read_masked ∙ (owed_alike (masked s.first (whole m d)) (whole m d) s.jobs read
      ∙ (sym (owed_bare (whole m d) s.jobs) ∙ ap (owed (whole m d)) sv.jobs))
    where
      read : (x : JobEntry) → In x s.jobs → pending (masked s.first (whole m d)) x.job ≡ pending (whole m d) x.job
      read x i = pending_masked (size d) d.log.capacity s.first (whole m d) x.job dur.legal (sv.young x.job (sym (job_open x.job) ∙ in_is_job x s.jobs i))

  pub room_read : (n : ℕ) → has_room m d s n ≡ true → length (whole m d) + owed_by (whole m d) + n ≤ d.log.capacity
  room_read n e =
      let le = leb-true _ _ e in
      let same = owed_read in
      let long = whole_length m d in
      let room = room_now (size d) d.log.capacity (whole m d) dur.legal in
      omega arith

-- What stays when the log grows

module _ {C : Type 0} where
  pub older_length : (M L : Log C) → Older M L → length M ≤ length L
  older_length M L same = omega arith
  older_length M (s ∷ L) (more o) = let k = older_length M L o in omega arith

  pub up_to_kept : (n : ℕ) (M L : Log C) → Older M L → n ≤ length M → up_to n L ≡ up_to n M
  up_to_kept n M L same le = refl
  up_to_kept n M (s ∷ L) (more o) le = let k = older_length M L o in up_to_less n s L (omega arith) ∙ up_to_kept n M L o le

module _ {C : Type 0} (m : Meaning C) (d e : Devices) (grown : Older (whole m d) (whole m e)) where
  pub first_older : (first : ℕ) → ((p : ℕ) → stored_lrcs m d p ≤ stored_lrcs m e p) → First m d first → First m e first
  first_older first up f =
      let long = older_length _ _ grown in
      let from = f.from in
      let until = f.until in
      record {
        from = f.from;
        until = omega arith;
        covers = λ p. let a = f.covers p in let b = up p in rw (up_to_kept (pred first) (whole m d) (whole m e) grown (omega arith)) (omega arith);
      }

  -- a copy that is left as it is; a page that nobody holds has no new record
  pub copy_older : (s t : Working) (p : ℕ) → Legal (size e) e.log.capacity (whole m e) → copy_of t.copies p ≡ copy_of s.copies p
      → stored_lrcs m e p ≤ (copy_of s.copies p).lrc → (is_held p t.jobs ≡ false → (copy_of s.copies p).lrc ≡ count (whole m e) p)
      → Copy m d s p → Copy m e t p
  copy_older s t p legal is above complete c =
      let lrc : (copy_of t.copies p).lrc ≡ (copy_of s.copies p).lrc = ap (λ (x : Page). x.lrc) is in
      let b = c.below in
      let n = count_older (whole m d) (whole m e) p grown in
      record {
        image = is ∙ (c.image ∙ (sym (image_older (size e) e.log.capacity m (whole m d) (whole m e) p (copy_of s.copies p).lrc grown legal b) ∙ ap (image m (whole m e) p) (sym lrc)));
        above = rw lrc above;
        below = rw lrc (omega arith);
        complete = λ q. lrc ∙ complete q;
      }

-- A plan with no operations

module _ {C : Type 0} (m : Meaning C) where
  pub nothing_done : {A : Type 0} (Q : Result A Refusal → World → Type 0) {answer : Result A Refusal} {after : Memory} {w v : World} {r : Result A Refusal}
      → Q answer (record { devices = w.devices; memory = after }) → Does m (performs [] answer after) w r v → Q r v
  nothing_done Q y (performed done) = y

  -- what safe operations come to: all is done, or power is lost and the server is out of service
  pub ended_good : {A : Type 0} (told : Result A Refusal → Ledger C) (h : Ledger C) (answer : Result A Refusal) (after : Memory) (ops : List (Op C)) (d : Devices) (r : Result A Refusal) (w : World)
      → ((why : Refusal) → number_of why ≡ 17 → told (Err why) ≡ h)
      → (Dids m ops d w.devices → Kept m h w.devices → Good m (told answer) (record { devices = w.devices; memory = after }))
      → Ended m h answer after ops d r w → Good m (told r) w
  ended_good told h answer after ops d r w nay aye (all_done e f ds k) = let g = aye ds k in
      subst (λ (x : Result _ Refusal). Good m (told x) w) (sym e) (record { kept = g.kept; stage = subst (Stage m (told answer) w.devices) (sym f) g.stage })
  ended_good told h answer after ops d r w nay aye (lost why e n f k) =
      subst (λ (x : Result _ Refusal). Good m (told x) w) (sym e) (subst (λ (x : Ledger C). Good m x w) (sym (nay why n))
      (record { kept = k; stage = subst (Stage m h w.devices) (sym f) tt }))

  -- what is left to show of a server that serves on with the same copies
  pub record ReachedFromAny (L : Log C) (forced : ℕ) (s : Working) (jobs : Jobs) : Type 0 where
    pub table : bare jobs ≡ open_jobs L
    pub one : (j k p : ℕ) → held_by j p jobs ≡ true → held_by k p jobs ≡ true → j ≡ k
    pub changed : (j : ℕ) (x : Numbered C) → is_open L j ≡ true → In x (pending L j) → held_by j x.record'.page jobs ≡ true
    pub complete : (p : ℕ) → is_held p jobs ≡ false → (copy_of s.copies p).lrc ≡ count L p
    pub young : (j : ℕ) → is_open L j ≡ true → s.first ≤ j
    pub opened : (j : ℕ) → is_open L j ≡ true → j ≤ forced

  pub serves_on : (d e : Devices) (L : Log C) (s : Working) (jobs : Jobs) → Serving m d s → Durable m e → whole m e ≡ L → Older (whole m d) L → e.pages ≡ d.pages
      → e.log.powered ≡ true → ReachedFromAny L e.log.forced s jobs → Serving m e (record { copies = s.copies; jobs = jobs; first = s.first })
  serves_on d e L s jobs sv dur is older pages power g = record {
    power = record { pages = ap (λ (x : PageModel). x.powered) pages ∙ sv.power.pages; log = power };
    jobs = rw is g.table;
    one = g.one;
    changed = rw is g.changed;
    many = sv.many ∙ sym (ap (λ (x : PageModel). length x.pages) pages);
    copies = λ p. copy_older m d e grown s _ p dur.legal refl (let q = stored p in let a = (sv.copies p).above in omega arith) (rw is (g.complete p)) (sv.copies p);
    first = first_older m d e grown s.first (λ p. let q = stored p in omega arith) sv.first;
    young = rw is g.young;
    opened = rw is g.opened;
  }
    where
      grown : Older (whole m d) (whole m e)
      grown = rw is older

      stored : (p : ℕ) → stored_lrcs m e p ≡ stored_lrcs m d p
      stored p = ap (λ (x : PageModel). (page_of (get_or x.pages p (replicate 256 0))).lrc) pages

-- Entries and changes of the jobs that pass a test

module _ {C : Type 0} where
  pub entries_alike : (f g : ℕ → Bool) (p : ℕ) (es : List (Entry C)) → ((e : Entry C) → In e es → f e.job ≡ g e.job) → entries_by f p es ≡ entries_by g p es
  entries_alike f g p [] a = refl
  entries_alike f g p (e ∷ es) a = ap₂ (λ (b : Bool) (xs : List (Entry C)). cond (eqb e.page p && b) (e ∷ xs) xs) (a e (here refl)) (entries_alike f g p es (λ x i. a x (there i)))
