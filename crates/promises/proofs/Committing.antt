-- A commit leaves a good state: all its job's entries are in the log, and its slot is forced before it is answered. Assumes nothing.
use Rattle.std.proofs.Common.{◌≡◌, ℕ, ◌≤◌, Bool, true, false, cond, not, ◌&&◌, ◌||◌, eqb, List, [], ◌∷◌, map, length, Some, Ok, Err, Result, sym, refl, ap, ◌∙◌, subst, ⊎_elim, arith}
use Rattle.std.proofs.lemmas.Bool.{eqb-true, eqb-false, eq-eqb, ltb-false, not-true, or_cases, or_left, or_right, cond-true, false≢true}
use Rattle.std.proofs.lemmas.Bool.Decides.{nat_tests}
use Rattle.format.specs.declared.slot.Slot.TheVariants.{Job}
use Rattle.format.specs.declared.slot.JobEvent.TheVariants.{Commit}
use Rattle.format.specs.Changes.{Meaning, Lawful}
use Rattle.recovery_log.specs.Log.{Log, new_number, is_open, is_committed, Numbered}
use Rattle.rules.specs.declared.refusal.Refusal.{Refusal}
use Rattle.rules.specs.Ledger.{Ledger, Entry, is_in, with_kept, with_doubt}
use Rattle.rules.specs.Plans.{Op, append, force, performs, Does}
use Rattle.rules.specs.Playing.{lacks}
use Rattle.rules.specs.Reading.{at, up_to}
use Rattle.rules.specs.Restart.{whole}
use Rattle.rules.specs.Runs.{commits, told_service}
use Rattle.rules.specs.Service.{copy_of, with_jobs, holds_of, log_read, held_complete, commit_in}
use Rattle.rules.specs.State.{Devices, Memory, Working, serving, World, size, next_slot}
use Rattle.rules.specs.Tables.{is_job, without_job, is_held}
use Rattle.promises.proofs.Asking.{asked, performing}
use Rattle.promises.proofs.Cuts.{up_to_all}
use Rattle.promises.proofs.Decoded.{whole_length}
use Rattle.promises.proofs.Invariants.{live, entry_of, entries_by, pile_by, Kept, Stage, Good}
use Rattle.promises.proofs.Keeping.{keep}
use Rattle.promises.proofs.Legal.{count, pile, same, more}
use Rattle.promises.proofs.Opening.{Put, safe_put, did_put}
use Rattle.promises.proofs.Operations.{performed_safe}
use Rattle.promises.proofs.OwedLaws.{room_now, room_closed}
use Rattle.promises.proofs.Safety.{SafeAppend, Dids, Ended, all_done, lost}
use Rattle.promises.proofs.Serves.{job_open, jobs_distinct, lacks_is, ended_good, ReachedFromAny, serves_on, entries_alike}
use Rattle.promises.proofs.TableLaws.{bare_without, held_without, held_without_less, freed, each_of, holds_of_held}

-- The entries of fewer jobs

module _ {C : Type 0} (f g : ℕ → Bool) (fewer : (k : ℕ) → f k ≡ true → g k ≡ true) where
  fewer_entries : (p : ℕ) (es : List (Entry C)) → keep (λ e. f e.job) (entries_by g p es) ≡ entries_by f p es
  fewer_entries p [] = refl
  fewer_entries p (e ∷ es) = go (eqb e.page p) (f e.job) (g e.job) refl (fewer e.job) (fewer_entries p es)
    where
      go : (q a b : Bool) → f e.job ≡ a → (a ≡ true → b ≡ true) → keep (λ (x : Entry C). f x.job) (entries_by g p es) ≡ entries_by f p es
          → keep (λ (x : Entry C). f x.job) (cond (q && b) (e ∷ entries_by g p es) (entries_by g p es)) ≡ cond (q && a) (e ∷ entries_by f p es) (entries_by f p es)
      go false a b is u k = k
      go true true true is u k = rw is (ap (λ (xs : List (Entry C)). e ∷ xs) k)
      go true true false is u k = absurd (false≢true (u refl))
      go true false true is u k = rw is k
      go true false false is u k = k

  pub refine : (p : ℕ) (es : List (Entry C)) (xs : List (Numbered C)) → entries_by g p es ≡ map entry_of xs → entries_by f p es ≡ pile_by f xs
  refine p es xs e = sym (fewer_entries p es) ∙ (ap (keep (λ x. f x.job)) e ∙ kept_pile xs)
    where
      kept_pile : (xs : List (Numbered C)) → keep (λ (x : Entry C). f x.job) (map entry_of xs) ≡ pile_by f xs
      kept_pile [] = refl
      kept_pile (x ∷ xs) = go (f x.record'.job) (kept_pile xs)
        where
          go : (t : Bool) → keep (λ (x : Entry C). f x.job) (map entry_of xs) ≡ pile_by f xs
              → cond t (entry_of x ∷ keep (λ (x : Entry C). f x.job) (map entry_of xs)) (keep (λ (x : Entry C). f x.job) (map entry_of xs))
              ≡ cond t (entry_of x ∷ pile_by f xs) (pile_by f xs)
          go true k = ap (λ (ys : List (Entry C)). entry_of x ∷ ys) k
          go false k = k

-- the jobs that stay open, those that are committed, and both
module _ {C : Type 0} (j : ℕ) (L : Log C) where
  still_open : (i : ℕ) → is_open (Some (Job Commit j) ∷ L) i ≡ true → (is_open L i ≡ true) × (i ≡ j → ⊥)
  still_open i o = go (eqb j i) refl o
    where
      go : (t : Bool) → eqb j i ≡ t → cond t false (is_open L i) ≡ true → (is_open L i ≡ true) × (i ≡ j → ⊥)
      go true e o = absurd (false≢true o)
      go false e o = (o, λ q. eqb-false j i e (sym q))

  now_committed : (i : ℕ) → is_committed (Some (Job Commit j) ∷ L) i ≡ (eqb j i || is_committed L i)
  now_committed i = go (eqb j i)
    where
      go : (t : Bool) → ((t && true) || is_committed L i) ≡ (t || is_committed L i)
      go true = refl
      go false = refl

  module _ (o : is_open L j ≡ true) where
    committed_live : (i : ℕ) → is_committed (Some (Job Commit j) ∷ L) i ≡ true → live L i ≡ true
    committed_live i e = ⊎_elim (λ q. or_left _ _ (ap (is_open L) (sym (eqb-true j i q)) ∙ o)) (λ q. or_right _ _ q) (or_cases _ _ (sym (now_committed i) ∙ e))

    live_same : (i : ℕ) → live (Some (Job Commit j) ∷ L) i ≡ live L i
    live_same i = go (eqb j i) refl
      where
        go : (t : Bool) → eqb j i ≡ t → (cond t false (is_open L i) || ((t && true) || is_committed L i)) ≡ live L i
        go true e = sym (or_left _ _ (ap (is_open L) (sym (eqb-true j i e)) ∙ o))
        go false e = refl

module _ {C : Type 0} (m : Meaning C) (law : Lawful m) where
  module _ (h : Ledger C) (j : ℕ) (d : Devices) (s : Working) (k : Kept m h d) (st : Stage m h d (serving s)) (job : is_job j s.jobs ≡ true) where
    open_now : is_open (whole m d) j ≡ true
    open_now = sym (job_open m d s k.durable st.1 j) ∙ job

    -- while the commit is not answered its job is doubtful
    kept_doubt : Kept m (with_doubt j h) d
    kept_doubt = record {
      durable = k.durable;
      book = record {
        entries = k.book.entries;
        committed = λ i e. let q = k.book.committed i e in grind (arith, nat_tests);
        kept = k.book.kept;
        old = k.book.old;
      };
    }

    safe_commit : SafeAppend m (with_doubt j h) d (Job Commit j)
    safe_commit = record {
      fits = open_now;
      room = room_closed (size d) d.log.capacity (whole m d) j Commit k.durable.legal open_now refl (room_now (size d) d.log.capacity (whole m d) k.durable.legal);
      alone = tt;
      honest = record {
        doubted = or_left _ _ (eq-eqb j j refl);
        entries = λ p. refine (is_committed (Some (Job Commit j) ∷ whole m d)) (live (whole m d)) (committed_live j (whole m d) open_now) p h.entries (pile (whole m d) p) (st.2 p);
      };
    }

    -- a page that was held by this job alone is complete
    complete_now : held_complete m d s j ≡ true → (p : ℕ) → is_held p (without_job j s.jobs) ≡ false → (copy_of s.copies p).lrc ≡ count (whole m d) p
    complete_now all p e = go (is_held p s.jobs) refl
      where
        go : (t : Bool) → is_held p s.jobs ≡ t → (copy_of s.copies p).lrc ≡ count (whole m d) p
        go false f = (st.1.copies p).complete f
        go true f =
            let held = holds_of_held j p s.jobs (jobs_distinct m d s k.durable st.1) (freed j p s.jobs e f) in
            let q = ltb-false _ _ (sym (lacks_is m d s k.durable st.1 p) ∙ not-true _ (each_of (λ p. not (lacks p (copy_of s.copies p).lrc (log_read m d s))) (holds_of j s.jobs) p all held)) in
            let b = (st.1.copies p).below in
            omega arith

    goes_commit : held_complete m d s j ≡ true → (forced : ℕ) → d.log.forced ≤ forced → ReachedFromAny m (Some (Job Commit j) ∷ whole m d) forced s (without_job j s.jobs)
    goes_commit all forced up = let sv = st.1 in let left = still_open j (whole m d) in record {
      table = bare_without j s.jobs ∙ ap (without_job j) sv.jobs;
      one = λ i l p a b. sv.one i l p (held_without_less j i p s.jobs a) (held_without_less j l p s.jobs b);
      changed = λ i x o y. held_without j i x.record'.page s.jobs (left i o).1 ∙ sv.changed i x (left i o).0 y;
      complete = complete_now all;
      young = λ i o. sv.young i (left i o).0;
      opened = λ i o. let u = sv.opened i (left i o).0 in omega arith;
    }

    -- when it is answered its job is kept
    kept_kept : (e : Devices) → Kept m (with_doubt j h) e → Put m law (Job Commit j) d e → Kept m (with_kept j h) e
    kept_kept e k' p = record {
      durable = k'.durable;
      book = record {
        entries = k'.book.entries;
        committed = λ i c. let q = k'.book.committed i c in grind (arith, nat_tests);
        kept = λ i c. ⊎_elim (kept i) (k'.book.kept i) (or_cases (eqb j i) (is_in i h.kept) c);
        old = k'.book.old;
      };
    }
      where
        log : up_to e.log.forced (whole m e) ≡ Some (Job Commit j) ∷ whole m d
        log = up_to_all _ _ (let a = p.all in let b = ap length p.grown.log in omega arith) ∙ p.grown.log

        kept : (i : ℕ) → eqb j i ≡ true → is_committed (up_to e.log.forced (whole m e)) i ≡ true
        kept i q = ap (λ L. is_committed L i) log ∙ (now_committed j (whole m d) i ∙ or_left _ _ q)

    committed_good : held_complete m d s j ≡ true → (e : Devices) → Kept m (with_doubt j h) e → Put m law (Job Commit j) d e
        → Good m (with_kept j h) (record { devices = e; memory = with_jobs s (without_job j s.jobs) })
    committed_good all e k' p = record {
      kept = kept_kept e k' p;
      stage = (
        record {
          none = st.0.none;
          exact = λ i. ap (λ (b : Bool). eqb j i || b) (st.0.exact i) ∙ (sym (now_committed j (whole m d) i) ∙ ap (λ L. is_committed L i) (sym p.grown.log));
        },
        serves_on m d e _ s _ st.1 k'.durable p.grown.log (more same) p.grown.pages (p.grown.power st.1.power.log)
            (goes_commit all e.log.forced p.grown.raised),
        λ q. subst (λ (L : Log C). entries_by (live L) q h.entries ≡ map entry_of (pile L q)) (sym p.grown.log)
            (entries_alike (live (Some (Job Commit j) ∷ whole m d)) (live (whole m d)) q h.entries (λ x i. live_same j (whole m d) open_now x.job) ∙ st.2 q),
      );
    }

    abbrev ops : List (Op C)
    ops = append (Job Commit j) ∷ force ∷ []

    abbrev after : Memory
    after = with_jobs s (without_job j s.jobs)

    commit_ended : (r : Result ℕ Refusal) (v : World) → Does m (performs ops (Ok (next_slot d)) after) (record { devices = d; memory = serving s }) r v
        → Ended m (with_doubt j h) (Ok (next_slot d)) after ops d r v
    commit_ended r v x = performed_safe m law (with_doubt j h) (Ok (next_slot d)) after ops d r v kept_doubt (safe_put m law (with_doubt j h) d (Job Commit j) safe_commit) (performing m x)

    commit_put : (e : Devices) → Dids m ops d e → Put m law (Job Commit j) d e
    commit_put e ds = did_put m law (with_doubt j h) d e (Job Commit j) kept_doubt safe_commit ds

  pub commit_good : (h : Ledger C) (j : ℕ) (d : Devices) (s : Working) (r : Result ℕ Refusal) (v : World) → Kept m h d → Stage m h d (serving s)
      → Does m (commit_in m j d s) (record { devices = d; memory = serving s }) r v → Good m (told_service m (commits j) r h) v
  commit_good h j d s r v k st x = asked m Q (record { kept = k; stage = st }) (λ e₁ x₁. asked m Q (record { kept = k; stage = st }) (λ e₂ x₂.
      ended_good m told (with_doubt j h) (Ok (next_slot d)) (after h j d s k st e₁) (ops h j d s k st e₁) d r v (λ why n. rw n)
      (λ ds k'. committed_good h j d s k st e₁ e₂ v.devices k' (commit_put h j d s k st e₁ v.devices ds)) (commit_ended h j d s k st e₁ r v x₂)) x₁) x
    where
      told : Result ℕ Refusal → Ledger C
      told r = told_service m (commits j) r h

      Q : Result ℕ Refusal → World → Type 0
      Q r v = Good m (told_service m (commits j) r h) v

  -- the answer is the number of the commit's slot, which is forced
  pub commit_slot : (h : Ledger C) (j n : ℕ) (d : Devices) (s : Working) (v : World) → Kept m h d → Stage m h d (serving s)
      → Does m (commit_in m j d s) (record { devices = d; memory = serving s }) (Ok n) v → (at (whole m v.devices) n ≡ Some (Job Commit j)) × (n ≤ v.devices.log.forced)
  commit_slot h j n d s v k st x = asked m Q (λ q. never q) (λ e₁ x₁. asked m Q (λ q. never q) (λ e₂ x₂ q. go e₁ q (commit_ended h j d s k st e₁ (Ok n) v x₂)) x₁) x refl
    where
      never : {P : Type 0} {why : Refusal} → ◌≡◌ {A = Result ℕ Refusal} (Err why) (Ok n) → P
      never q = let z : ◌≡◌ {A = ℕ} 0 1 = cc in absurd (omega arith)

      Q : Result ℕ Refusal → World → Type 0
      Q r v = r ≡ Ok n → (at (whole m v.devices) n ≡ Some (Job Commit j)) × (n ≤ v.devices.log.forced)

      go : (job : is_job j s.jobs ≡ true) → ◌≡◌ {A = Result ℕ Refusal} (Ok n) (Ok n) → Ended m (with_doubt j h) (Ok (next_slot d)) (after h j d s k st job) (ops h j d s k st job) d (Ok n) v
          → (at (whole m v.devices) n ≡ Some (Job Commit j)) × (n ≤ v.devices.log.forced)
      go job q (all_done e f ds k') =
          let p = commit_put h j d s k st job v.devices ds in
          let a = p.all in
          let b = whole_length m d in
          let is : n ≡ next_slot d = cc in
          (ap (λ (L : Log C). at L n) p.grown.log ∙ cond-true _ _ _ (eq-eqb n (new_number (whole m d)) (omega arith)), omega arith)
      go job q (lost why e w f k') = never (sym e)
