-- Abort keeps what holds in service: the copies of the pages that the job held are complete, and its changes are taken back.
use Rattle.std.proofs.Common.{◌≡◌, ℕ, zero, suc, ◌<◌, ◌≤◌, Bool, true, false, cond, ◌&&◌, ◌||◌, eqb, List, [], ◌∷◌, map, length, get_or, Some, Ok, Option, Result, sym, refl, ap, ◌∙◌, subst, ⊎_elim, append-nil, arith}
use Rattle.std.proofs.lemmas.Bool.{eqb-false, eq-eqb, true≢false, false≢true, or_cases, or_left, or_right, or_from, cases_lt}
use Rattle.format.specs.declared.page.Page.{Page}
use Rattle.format.specs.declared.slot.Slot.{Slot}
use Rattle.format.specs.declared.slot.Slot.TheVariants.{Record, Job, Checkpoint}
use Rattle.format.specs.declared.slot.JobEvent.TheVariants.{End}
use Rattle.format.specs.Changes.{Meaning, Lawful}
use Rattle.device.specs.PageStores.{PageModel}
use Rattle.recovery_log.specs.Log.{Log, is_open, is_committed, Numbered, pending}
use Rattle.rules.specs.declared.refusal.Refusal.{Refusal}
use Rattle.rules.specs.Ledger.{Ledger, Entry}
use Rattle.rules.specs.Plans.{Op, Performed, Does}
use Rattle.rules.specs.Playing.{played, of_page}
use Rattle.rules.specs.Reading.{up_to}
use Rattle.rules.specs.Restart.{whole}
use Rattle.rules.specs.Runs.{aborts, told_service}
use Rattle.rules.specs.Service.{copy_of, at_held, holds_of, Work, Stopped, appends, all_back, aborted, completed, abort_in, log_read}
use Rattle.rules.specs.State.{Devices, serving, Working, World, size}
use Rattle.rules.specs.Tables.{Jobs, next_of, without_job, held_by, is_held, holds_page}
use Rattle.promises.proofs.Appends.{Plain, grown_size, grown_stored, safe_appends, dids_appends}
use Rattle.promises.proofs.Asking.{asked, performing}
use Rattle.promises.proofs.Committing.{refine}
use Rattle.promises.proofs.Cuts.{older_up_to}
use Rattle.promises.proofs.Images.{image_lrc, played_whole}
use Rattle.promises.proofs.Invariants.{live, entry_of, pile_by, stored_lrcs, Kept, Copy, Serving, Entered, Stage, Good}
use Rattle.promises.proofs.JobLaws.{pending_at, committed_closed}
use Rattle.promises.proofs.Legal.{count, pile, image, whole_page, open_jobs, Legal, Exclusive, masked, Older}
use Rattle.promises.proofs.Membership.{In, here, there}
use Rattle.promises.proofs.Opening.{committed_same}
use Rattle.promises.proofs.Operations.{sizes_of, performed_safe}
use Rattle.promises.proofs.PageCounts.{count_inside, count_older}
use Rattle.promises.proofs.Piles.{pile_live}
use Rattle.promises.proofs.Safety.{onto, SafeOps, Dids, none, Grown}
use Rattle.promises.proofs.Serves.{first_older, ended_good, entries_alike, read_masked, job_open, job_next, jobs_distinct, copy_covers}
use Rattle.promises.proofs.Shipping.{copy_from}
use Rattle.promises.proofs.TableLaws.{bare_without, freed, held_without, held_without_less, holds_of_held}
use Rattle.promises.proofs.TakingBack.{Backs, Taken, Spared, Wholes, Aborted, abort_true, aborted_legal, aborted_exclusive, aborted_jobs}
use Rattle.promises.proofs.WritingOut.{older_onto}

-- Copies changed where a job holds

at_held_length : (f : ℕ → Page → Page) (hs : List Bool) (cs : List Page) → length (at_held f hs cs) ≡ length cs
at_held_length f [] cs = refl
at_held_length f (h ∷ hs) [] = refl
at_held_length f (h ∷ hs) (c ∷ cs) = ap suc (at_held_length (λ p. f (suc p)) hs cs)

at_held_there : (f : ℕ → Page → Page) (hs : List Bool) (cs : List Page) (p : ℕ) → p < length cs → get_or hs p false ≡ true → copy_of (at_held f hs cs) p ≡ f p (copy_of cs p)
at_held_there f [] cs p lt e = absurd (false≢true e)
at_held_there f (h ∷ hs) [] p lt e = absurd (omega arith)
at_held_there f (h ∷ hs) (c ∷ cs) zero lt e = rw e refl
at_held_there f (h ∷ hs) (c ∷ cs) (suc p) lt e = at_held_there (λ q. f (suc q)) hs cs p (omega arith) e

at_held_else : (f : ℕ → Page → Page) (hs : List Bool) (cs : List Page) (p : ℕ) → get_or hs p false ≡ false → copy_of (at_held f hs cs) p ≡ copy_of cs p
at_held_else f [] cs p e = refl
at_held_else f (h ∷ hs) [] p e = refl
at_held_else f (h ∷ hs) (c ∷ cs) zero e = rw e refl
at_held_else f (h ∷ hs) (c ∷ cs) (suc p) e = at_held_else (λ q. f (suc q)) hs cs p e

at_held_beyond : (f : ℕ → Page → Page) (hs : List Bool) (cs : List Page) (p : ℕ) → length cs ≤ p → copy_of (at_held f hs cs) p ≡ copy_of cs p
at_held_beyond f [] cs p le = refl
at_held_beyond f (h ∷ hs) [] p le = refl
at_held_beyond f (h ∷ hs) (c ∷ cs) zero le = absurd (omega arith)
at_held_beyond f (h ∷ hs) (c ∷ cs) (suc p) le = at_held_beyond (λ q. f (suc q)) hs cs p (omega arith)

holds_held : (j p : ℕ) (jobs : Jobs) → get_or (holds_of j jobs) p false ≡ true → held_by j p jobs ≡ true
holds_held j p [] e = e
holds_held j p (x ∷ xs) e = go (eqb x.job j) e (holds_held j p xs)
  where
    go : (t : Bool) → get_or (cond t x.holds (holds_of j xs)) p false ≡ true → (get_or (holds_of j xs) p false ≡ true → held_by j p xs ≡ true)
        → ((t && holds_page p x) || held_by j p xs) ≡ true
    go true e ih = or_left _ _ e
    go false e ih = ih e

module _ {C : Type 0} (m : Meaning C) (h : Ledger C) (d : Devices) (s : Working) (j : ℕ) (k : Kept m h d) (v : Serving m d s) where
  abbrev done : List Page
  done = completed m d s j

  completed_many : length done ≡ size d
  completed_many = at_held_length _ (holds_of j s.jobs) s.copies ∙ v.many

  -- a page that the job holds is whole
  completed_held : (q : ℕ) → held_by j q s.jobs ≡ true → copy_of done q ≡ whole_page m (whole m d) q
  completed_held q held = ⊎_elim inside outside (cases_lt q (size d))
    where
      c : ℕ
      c = (copy_of s.copies q).lrc

      inside : q < size d → copy_of done q ≡ whole_page m (whole m d) q
      inside lt =
          at_held_there _ (holds_of j s.jobs) s.copies q (omega (arith, v.many)) (holds_of_held j q s.jobs (jobs_distinct m d s k.durable v) held)
          ∙ (ap (λ (M : Log C). played m (of_page q) M (copy_of s.copies q)) (read_masked m d s k.durable v)
          ∙ (ap (played m (of_page q) (masked s.first (whole m d))) (v.copies q).image
          ∙ played_whole (size d) d.log.capacity m s.first (whole m d) q (copy_of s.copies q).lrc k.durable.legal (copy_covers m d s k.durable v q) (v.copies q).below))

      outside : size d ≤ q → copy_of done q ≡ whole_page m (whole m d) q
      outside le =
          let none = count_inside (size d) d.log.capacity (whole m d) q k.durable.legal le in
          at_held_beyond _ (holds_of j s.jobs) s.copies q (omega (arith, v.many)) ∙ ((v.copies q).image ∙ ap (image m (whole m d) q) (omega (arith, (v.copies q).below)))

  -- any other copy stays
  completed_else : (q : ℕ) → held_by j q s.jobs ≡ false → copy_of done q ≡ copy_of s.copies q
  completed_else q free = at_held_else _ (holds_of j s.jobs) s.copies q (go (get_or (holds_of j s.jobs) q false) refl)
    where
      go : (t : Bool) → get_or (holds_of j s.jobs) q false ≡ t → t ≡ false
      go true e = absurd (true≢false (sym (holds_held j q s.jobs e) ∙ free))
      go false e = refl

-- The ledger's entries and the changes of jobs that are left

module _ {C : Type 0} where
  pile_all : (f : ℕ → Bool) (xs : List (Numbered C)) → ((x : Numbered C) → In x xs → f x.record'.job ≡ true) → pile_by f xs ≡ map entry_of xs
  pile_all f [] all = refl
  pile_all f (x ∷ xs) all = rw (all x (here refl)) (ap (λ (t : List (Entry C)). entry_of x ∷ t) (pile_all f xs (λ y i. all y (there i))))

  -- after its end a job is neither open nor committed, and the others are as they were
  module _ (L N : Log C) (j : ℕ) (opened : (i : ℕ) → is_open N i ≡ is_open L i) (committed : (i : ℕ) → is_committed N i ≡ is_committed L i) where
    ended_open : (i : ℕ) → is_open (Some (Job End j) ∷ N) i ≡ true → (is_open L i ≡ true) × (eqb j i ≡ false)
    ended_open i o = go (eqb j i) o
      where
        go : (t : Bool) → cond t false (is_open N i) ≡ true → (is_open L i ≡ true) × (t ≡ false)
        go true o = absurd (false≢true o)
        go false o = (sym (opened i) ∙ o, refl)

    ended_committed : (i : ℕ) → is_committed (Some (Job End j) ∷ N) i ≡ is_committed L i
    ended_committed i = committed_same End j N i refl ∙ committed i

    ended_live : (i : ℕ) → live (Some (Job End j) ∷ N) i ≡ true → live L i ≡ true
    ended_live i l = ⊎_elim (λ o. or_left _ _ (ended_open i o).0) (λ c. or_right _ _ (sym (ended_committed i) ∙ c)) (or_cases (is_open (Some (Job End j) ∷ N) i) (is_committed (Some (Job End j) ∷ N) i) l)

    ended_dead : is_committed L j ≡ false → live (Some (Job End j) ∷ N) j ≡ false
    ended_dead c = or_from _ _ (rw (eq-eqb j j refl) refl) (ended_committed j ∙ c)

module _ {C : Type 0} (m : Meaning C) (h : Ledger C) (d : Devices) (s : Working) (j : ℕ) (k : Kept m h d) (st : Stage m h d (serving s)) (o : is_open (whole m d) j ≡ true) where
  abbrev L : Log C
  L = whole m d

  abbrev work : Work C
  work = record { log = log_read m d s; copies = completed m d s j; appended = [] }

  abbrev looped : Stopped C
  looped = all_back m (next_of j s.jobs) j (next_of j s.jobs) work

  abbrev after : Working
  after = record { copies = looped.work.copies; jobs = without_job j s.jobs; first = s.first }

  wholes : Wholes m (size d) d.log.capacity L j (completed m d s j)
  wholes x i =
      let w = pending_at (size d) d.log.capacity L j x k.durable.legal i in
      (completed_held m h d s j k st.1 x.record'.page (st.1.changed j x o i), omega (arith, completed_many m h d s j k st.1, w.inside))

  looped_true : Aborted m (size d) d.log.capacity s.first j L work looped
  looped_true = abort_true m (size d) d.log.capacity (sizes_of d k.durable.sizes).short s.first j (st.1.young j o) (next_of j s.jobs) (next_of j s.jobs) L work
      (job_next m d s k.durable st.1 j o) (omega arith) (read_masked m d s k.durable st.1) k.durable.legal k.durable.exclusive o wholes

  -- The stage once all slots are appended

  module _ (a : Aborted m (size d) d.log.capacity s.first j L work looped) (e : Devices) (g : Grown m (Job End j ∷ a.slots) d e) (k' : Kept m h e) where
    abbrev N : Log C
    N = onto a.slots L

    abbrev t : Taken m (size d) d.log.capacity L (completed m d s j) j (onto a.slots L) looped.work.copies
    t = a.taken

    stored_same : (q : ℕ) → stored_lrcs m e q ≡ stored_lrcs m d q
    stored_same q = ap (λ (f : ℕ → Page). (f q).lrc) (grown_stored m (Job End j ∷ a.slots) d e g)

    opened_was : (i : ℕ) → is_open (whole m e) i ≡ true → (is_open L i ≡ true) × (eqb j i ≡ false)
    opened_was i p = ended_open L N j t.opened t.committed i (ap (λ (M : Log C). is_open M i) (sym g.log) ∙ p)

    counted : (q : ℕ) → count (whole m e) q ≡ count N q
    counted q = ap (λ (M : Log C). count M q) g.log

    held_copy : (q : ℕ) → held_by j q s.jobs ≡ true → Copy m e after q
    held_copy q held =
        let is : copy_of after.copies q ≡ whole_page m N q = t.wholes q (completed_held m h d s j k st.1 q held) in
        let lrc : (whole_page m N q).lrc ≡ count N q = image_lrc (size d) d.log.capacity m N q (count N q) t.legal (omega arith) in
        let older = count_older (up_to e.log.forced (whole m e)) (whole m e) q (older_up_to e.log.forced (whole m e)) in
        copy_from m e after q (whole_page m N q) is (ap (image m N q) (sym lrc) ∙ ap (λ (M : Log C). image m M q (whole_page m N q).lrc) (sym g.log))
        (omega (arith, k'.durable.ahead q, counted q)) (omega (arith, counted q)) (λ n. lrc ∙ sym (counted q))

    free_copy : (q : ℕ) → held_by j q s.jobs ≡ false → Copy m e after q
    free_copy q free =
        let c = st.1.copies q in
        let spared : Spared L j q = λ x i p. true≢false (sym (st.1.changed j x o i) ∙ (ap (λ (n : ℕ). held_by j n s.jobs) p ∙ free)) in
        let is : copy_of after.copies q ≡ copy_of s.copies q = t.copies q spared ∙ completed_else m h d s j k st.1 q free in
        let same : count (whole m e) q ≡ count L q = counted q ∙ t.counts q spared in
        copy_from m e after q (copy_of s.copies q) is
        (c.image ∙ (sym (t.images q (copy_of s.copies q).lrc spared) ∙ ap (λ (M : Log C). image m M q (copy_of s.copies q).lrc) (sym g.log)))
        (omega (arith, stored_same q, c.above)) (omega (arith, c.below)) (λ n. c.complete (unheld n (is_held q s.jobs) refl) ∙ sym same)
      where
        unheld : is_held q (without_job j s.jobs) ≡ false → (b : Bool) → is_held q s.jobs ≡ b → b ≡ false
        unheld n true b = absurd (true≢false (sym (freed j q s.jobs n b) ∙ free))
        unheld n false b = refl

    copies_after : (q : ℕ) → Copy m e after q
    copies_after q = go (held_by j q s.jobs) refl
      where
        go : (b : Bool) → held_by j q s.jobs ≡ b → Copy m e after q
        go true b = held_copy q b
        go false b = free_copy q b

    changed_after : (i : ℕ) (x : Numbered C) → is_open (whole m e) i ≡ true → In x (pending (whole m e) i) → held_by i x.record'.page (without_job j s.jobs) ≡ true
    changed_after i x p q =
        let was = opened_was i p in
        let same : pending (whole m e) i ≡ pending L i = ap (λ (M : Log C). pending M i) g.log ∙ t.others i was.1 in
        held_without j i x.record'.page s.jobs (λ n. eqb-false j i was.1 (sym n)) ∙ st.1.changed i x was.0 (subst (In x) same q)

    serving_after : Serving m e after
    serving_after = let v = st.1 in record {
      power = record { pages = ap (λ (x : PageModel). x.powered) g.pages ∙ v.power.pages; log = g.power v.power.log };
      jobs = bare_without j s.jobs ∙ (ap (without_job j) v.jobs ∙ (sym (aborted_jobs m (size d) d.log.capacity o a) ∙ ap open_jobs (sym g.log)));
      one = λ i l p x y. v.one i l p (held_without_less j i p s.jobs x) (held_without_less j l p s.jobs y);
      changed = changed_after;
      many = t.many ∙ (completed_many m h d s j k v ∙ sym (grown_size m (Job End j ∷ a.slots) d e g));
      copies = copies_after;
      first = first_older m d e (subst (Older L) (sym g.log) (older_onto (Job End j ∷ a.slots) L)) s.first (λ p. omega (arith, stored_same p)) v.first;
      young = λ i p. v.young i (opened_was i p).0;
      opened = λ i p. let y = v.opened i (opened_was i p).0 in let r = g.raised in omega arith;
    }

    entered_after : Entered m h e
    entered_after p =
        let M = Some (Job End j) ∷ N in
        let f = live M in
        let closed : is_committed L j ≡ false = uncommitted (is_committed L j) refl in
        let same = g.log in
        entries_alike (live (whole m e)) f p h.entries (λ x i. ap (λ (K : Log C). live K x.job) same)
        ∙ (refine f (live L) (ended_live L N j t.opened t.committed) p h.entries (pile L p) (st.2 p)
        ∙ (sym (t.piles f (ended_dead L N j t.opened t.committed closed) p)
        ∙ (pile_all f (pile M p) (λ x i. pile_live (size d) d.log.capacity M p x (aborted_legal m (size d) d.log.capacity o a) (aborted_exclusive m (size d) d.log.capacity o a) i)
        ∙ ap (λ (K : Log C). map entry_of (pile K p)) (sym same))))
      where
        uncommitted : (b : Bool) → is_committed L j ≡ b → b ≡ false
        uncommitted true c = absurd (true≢false (sym o ∙ committed_closed (size d) d.log.capacity L j k.durable.legal c))
        uncommitted false c = refl

    stage_after : Stage m h e (serving after)
    stage_after = (
      record { none = st.0.none; exact = λ i. st.0.exact i ∙ sym (ap (λ (M : Log C). is_committed M i) g.log ∙ ended_committed L N j t.opened t.committed i) },
      serving_after,
      entered_after,
    )

backs_plain : {C : Type 0} (j : ℕ) (ss : List (Slot C)) → Backs j ss → Plain ss
backs_plain j [] b = tt
backs_plain j (Record r ∷ ss) b = (tt, backs_plain j ss b.2)
backs_plain j (Job e i ∷ ss) b = absurd b
backs_plain j (Checkpoint c ∷ ss) b = absurd b

module _ {C : Type 0} (m : Meaning C) (law : Lawful m) where
  pub abort_good : (h : Ledger C) (d : Devices) (s : Working) (j : ℕ) (r : Result (Unit {0}) Refusal) (v : World)
      → Kept m h d → Stage m h d (serving s) → Does m (abort_in m j d s) (record { devices = d; memory = serving s }) r v
      → Good m (told_service m (aborts j) r h) v
  abort_good h d s j r v k st x = asked m (λ r v. Good m (told r) v) (record { kept = k; stage = st })
      (λ job y. let o = sym (job_open m d s k.durable st.1 j) ∙ job in good o (looped_true m h d s j k st o) y) x
    where
      told : Result (Unit {0}) Refusal → Ledger C
      told r = told_service m (aborts j) r h

      good : (o : is_open (whole m d) j ≡ true) → Aborted m (size d) d.log.capacity s.first j (whole m d) (work m h d s j k st o) (looped m h d s j k st o)
          → Does m (aborted m s j (looped m h d s j k st o).work (looped m h d s j k st o).why) (record { devices = d; memory = serving s }) r v → Good m (told r) v
      good o a y = ended_good m told h (Ok tt) (serving (after m h d s j k st o)) ops d r v (λ why n. refl) (λ ds k'. record { kept = k'; stage = staged v.devices ds k' })
          (performed_safe m law h (Ok tt) _ ops d r v k safe now)
        where
          ops : List (Op C)
          ops = appends (Job End j ∷ a.slots) []

          legal : Legal (size d) d.log.capacity (onto (Job End j ∷ a.slots) (whole m d))
          legal = aborted_legal m (size d) d.log.capacity o a

          alone : Exclusive (onto (Job End j ∷ a.slots) (whole m d))
          alone = aborted_exclusive m (size d) d.log.capacity o a

          plain : Plain (Job End j ∷ a.slots)
          plain = (tt, backs_plain j a.slots a.backs)

          safe : SafeOps m h ops d
          safe = safe_appends m law h (Job End j ∷ a.slots) [] d k plain legal alone (λ e g k'. tt)

          staged : (e : Devices) → Dids m ops d e → Kept m h e → Stage m h e (serving (after m h d s j k st o))
          staged e ds k' = let y = dids_appends m law h (Job End j ∷ a.slots) [] d e k plain legal alone ds in go y.0 y.1 y.2 y.3
            where
              go : (c : Devices) → Grown m (Job End j ∷ a.slots) d c → Kept m h c → Dids m [] c e → Stage m h e (serving (after m h d s j k st o))
              go c g kc none = stage_after m h d s j k st o a e g kc

          now : Performed m (Ok tt) (serving (after m h d s j k st o)) ops d r v
          now = subst (λ (ss : List (Slot C)). Performed m (Ok tt) (serving (after m h d s j k st o)) (appends (Job End j ∷ ss) []) d r v)
              (a.appended ∙ append-nil a.slots)
              (performing m (subst (λ (z : Option Refusal). Does m (aborted m s j (looped m h d s j k st o).work z) (record { devices = d; memory = serving s }) r v) a.why y))
