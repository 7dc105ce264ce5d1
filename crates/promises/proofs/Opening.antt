-- An open leaves a good state: the job has the number of its slot, which no job had before, and the slot is forced. Assumes nothing.
use Rattle.std.proofs.Common.{◌≡◌, ℕ, suc, ◌≤◌, Bool, true, false, cond, eqb, List, [], ◌∷◌, length, Some, Ok, Result, sym, refl, ap, ◌∙◌, subst, arith}
use Rattle.std.proofs.lemmas.Bool.{ltb-true, eqb-true, ne_eqb, and_right}
use Rattle.format.specs.declared.slot.Slot.{Slot}
use Rattle.format.specs.declared.slot.Slot.TheVariants.{Job}
use Rattle.format.specs.declared.slot.JobEvent.{JobEvent}
use Rattle.format.specs.declared.slot.JobEvent.TheVariants.{Open}
use Rattle.format.specs.Changes.{Meaning, Lawful}
use Rattle.recovery_log.specs.Log.{Log, new_number, commits, is_open, is_committed, pending}
use Rattle.rules.specs.declared.refusal.Refusal.{Refusal}
use Rattle.rules.specs.Ledger.{Ledger, Entry}
use Rattle.rules.specs.Plans.{Op, append, force, Does}
use Rattle.rules.specs.Restart.{whole}
use Rattle.rules.specs.Runs.{opens, told_service}
use Rattle.rules.specs.Service.{with_jobs, has_place, has_room, open_in}
use Rattle.rules.specs.State.{Devices, Memory, Working, serving, World, size, log_length, next_slot}
use Rattle.rules.specs.Tables.{new_job, entered}
use Rattle.promises.proofs.Asking.{asked, performing}
use Rattle.promises.proofs.Decoded.{whole_length}
use Rattle.promises.proofs.Invariants.{live, Kept, Stage, Good}
use Rattle.promises.proofs.JobLaws.{fresh_pending}
use Rattle.promises.proofs.Keeping.{in_none}
use Rattle.promises.proofs.Legal.{Room, same, more}
use Rattle.promises.proofs.Membership.{In}
use Rattle.promises.proofs.Operations.{Forced, did_append, did_force, performed_safe}
use Rattle.promises.proofs.OwedLaws.{room_open}
use Rattle.promises.proofs.Safety.{SafeAppend, SafeOps, Dids, none, next, Grown}
use Rattle.promises.proofs.Serves.{room_read, ended_good, ReachedFromAny, serves_on, entries_alike}
use Rattle.promises.proofs.TableLaws.{bare_length, bare_entered, held_entered, is_held_entered}

-- a job's event that is no commit leaves the committed jobs
pub committed_same : {C : Type 0} (e : JobEvent) (k : ℕ) (L : Log C) (j : ℕ) → commits e ≡ false → is_committed (Some (Job e k) ∷ L) j ≡ is_committed L j
committed_same e k L j q = rw (and_right (eqb k j) (commits e) q)

module _ {C : Type 0} (m : Meaning C) (law : Lawful m) where
  -- a slot appended and forced
  pub record Put (s : Slot C) (d e : Devices) : Type 0 where
    pub grown : Grown m (s ∷ []) d e
    pub all : e.log.forced ≡ suc (length (whole m d))

  pub safe_put : (h : Ledger C) (d : Devices) (s : Slot C) → SafeAppend m h d s → SafeOps m h (append s ∷ force ∷ []) d
  safe_put h d s safe = (safe, λ e x. (tt, λ f y. tt))

  pub did_put : (h : Ledger C) (d f : Devices) (s : Slot C) → Kept m h d → SafeAppend m h d s → Dids m (append s ∷ force ∷ []) d f → Put s d f
  did_put h d f s k safe (next {e = e} a (next b none)) = go (did_append m law h d e s k safe a) (did_force m law e f b)
    where
      go : Grown m (s ∷ []) d e → Forced m e f → Put s d f
      go g o =
          let all = o.all in
          let low = g.raised in
          let held = g.held in
          let many : length e.log.slots ≡ length f.log.slots = sym (ap length o.slots) in
          let long : log_length f ≡ suc (length (whole m d)) = sym (whole_length m f) ∙ (ap length o.log ∙ ap length g.log) in
          record {
            grown = record {
              log = o.log ∙ g.log;
              pages = o.pages ∙ g.pages;
              capacity = o.capacity ∙ g.capacity;
              raised = omega arith;
              held = omega arith;
              power = λ t. o.power;
            };
            all = omega arith;
          }

  module _ (h : Ledger C) (d : Devices) (s : Working) (k : Kept m h d) (st : Stage m h d (serving s)) where
    own : next_slot d ≡ new_number (whole m d)
    own = ap suc (sym (whole_length m d))

    safe_open : has_place s.jobs ≡ true → has_room m d s 2 ≡ true → SafeAppend m h d (Job Open (next_slot d))
    safe_open place room = record {
      fits = record {
        own = own;
        place = let lt = ltb-true _ _ place in let a = bare_length s.jobs in let b = ap length st.1.jobs in omega arith;
      };
      room = subst (λ (n : ℕ). Room d.log.capacity (Some (Job Open n) ∷ whole m d)) (sym own)
          (room_open (size d) d.log.capacity (whole m d) k.durable.legal (room_read m d s k.durable st.1 2 room));
      alone = tt;
      honest = tt;
    }

    goes_open : ReachedFromAny m (Some (Job Open (next_slot d)) ∷ whole m d) (suc (length (whole m d))) s (entered (new_job (next_slot d) 0) s.jobs)
    goes_open = let n = next_slot d in let sv = st.1 in record {
      table = bare_entered n 0 s.jobs ∙ ap (entered (new_job n 0)) sv.jobs;
      one = λ i j p a b. sv.one i j p (sym (held_entered n 0 i p s.jobs) ∙ a) (sym (held_entered n 0 j p s.jobs) ∙ b);
      changed = λ j x o i. held_entered n 0 j x.record'.page s.jobs ∙ was _ j (λ q. absurd (in_none x (subst (λ xs. In x xs) (fresh j q) i))) (λ o. sv.changed j x o i) o;
      complete = λ p e. (sv.copies p).complete (sym (is_held_entered n 0 p s.jobs) ∙ e);
      young = λ j o. let u = sv.first.until in let w = own in was _ j (λ q. omega arith) (sv.young j) o;
      opened = λ j o. let w = own in was _ j (λ q. omega arith) (λ o. let u = sv.opened j o in let f = k.durable.forced in let g = whole_length m d in omega arith) o;
    }
      where
        fresh : (j : ℕ) → next_slot d ≡ j → pending (whole m d) j ≡ []
        fresh j q = let w = own in fresh_pending (size d) d.log.capacity (whole m d) j k.durable.legal (omega arith)

        -- the job that is open is the new one or was open
        was : (P : Type 0) (j : ℕ) → (next_slot d ≡ j → P) → (is_open (whole m d) j ≡ true → P) → cond (eqb (next_slot d) j) true (is_open (whole m d) j) ≡ true → P
        was P j new old o = go (eqb (next_slot d) j) refl o
          where
            go : (t : Bool) → eqb (next_slot d) j ≡ t → cond t true (is_open (whole m d) j) ≡ true → P
            go true e o = new (eqb-true _ _ e)
            go false e o = old o

    opened_good : (e : Devices) → Kept m h e → Put (Job Open (next_slot d)) d e → Good m h (record { devices = e; memory = with_jobs s (entered (new_job (next_slot d) 0) s.jobs) })
    opened_good e k' p = record {
      kept = k';
      stage = (
        record { none = st.0.none; exact = λ j. st.0.exact j ∙ (sym (committed_same Open n (whole m d) j refl) ∙ ap (λ L. is_committed L j) (sym p.grown.log)) },
        serves_on m d e L s _ st.1 k'.durable p.grown.log (more same) p.grown.pages (p.grown.power st.1.power.log)
            (subst (λ f. ReachedFromAny m L f s (entered (new_job n 0) s.jobs)) (sym p.all) goes_open),
        λ q. rw p.grown.log (entries_alike (live L) (live (whole m d)) q h.entries (λ x i. alike x (k.book.old x i)) ∙ st.2 q),
      );
    }
      where
        n : ℕ
        n = next_slot d

        L : Log C
        L = Some (Job Open (next_slot d)) ∷ whole m d

        alike : (x : Entry C) → x.job ≤ d.log.forced → live (Some (Job Open (next_slot d)) ∷ whole m d) x.job ≡ live (whole m d) x.job
        alike x old = let f = k.durable.forced in rw (ne_eqb (next_slot d) x.job (λ q. omega arith))

  pub open_good : (h : Ledger C) (d : Devices) (s : Working) (r : Result ℕ Refusal) (v : World) → Kept m h d → Stage m h d (serving s)
      → Does m (open_in m d s) (record { devices = d; memory = serving s }) r v → Good m (told_service m opens r h) v
  open_good h d s r v k st x = asked m Q same (λ e₁ x₁. asked m Q same (λ e₂ x₂.
      let safe = safe_open h d s k st e₁ e₂ in
      ended_good m told h (Ok (next_slot d)) after ops d r v (λ why n. refl) (λ ds k'. opened_good h d s k st v.devices k' (did_put h d v.devices (Job Open (next_slot d)) k safe ds))
      (performed_safe m law h (Ok (next_slot d)) after ops d r v k (safe_put h d (Job Open (next_slot d)) safe) (performing m x₂))) x₁) x
    where
      told : Result ℕ Refusal → Ledger C
      told r = told_service m opens r h

      Q : Result ℕ Refusal → World → Type 0
      Q r v = Good m (told_service m opens r h) v

      ops : List (Op C)
      ops = append (Job Open (next_slot d)) ∷ force ∷ []

      after : Memory
      after = with_jobs s (entered (new_job (next_slot d) 0) s.jobs)

      same : Good m h (record { devices = d; memory = serving s })
      same = record { kept = k; stage = st }
