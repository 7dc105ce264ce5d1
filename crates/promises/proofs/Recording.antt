-- A record leaves a good state: its change is the newest of its job and of its page, and the ledger has it. Assumes nothing.
use Rattle.std.proofs.Common.{◌≡◌, ℕ, suc, ◌≤◌, Bool, true, false, cond, ◌&&◌, eqb, List, [], ◌∷◌, map, is_some, Some, None, Ok, Option, Result, sym, refl, ap, ◌∙◌, subst, arith}
use Rattle.std.proofs.lemmas.Bool.{ltb-true, eqb-true, eqb-false, ne_eqb, and_from, and_right, both_ways, not_from_false, or_left, false≢true}
use Rattle.format.specs.declared.slot.Slot.{Slot}
use Rattle.format.specs.declared.slot.Slot.TheVariants.{Record}
use Rattle.format.specs.Changes.{Meaning, Lawful}
use Rattle.recovery_log.specs.Log.{Log, new_number, is_open, is_committed, Numbered, pending}
use Rattle.rules.specs.declared.refusal.Refusal.{Refusal}
use Rattle.rules.specs.Ledger.{Ledger, Entry, with_entry}
use Rattle.rules.specs.Plans.{append, Does}
use Rattle.rules.specs.Restart.{whole}
use Rattle.rules.specs.Runs.{records, told_service}
use Rattle.rules.specs.Service.{copy_of, with_jobs, in_store, follows_last, has_room, change_for, recorded, record_in}
use Rattle.rules.specs.State.{Devices, Memory, Working, serving, World, size, next_slot}
use Rattle.rules.specs.Tables.{is_job, with_next, held_by, is_held}
use Rattle.promises.proofs.Asking.{asked, performing}
use Rattle.promises.proofs.Decoded.{whole_length}
use Rattle.promises.proofs.Invariants.{live, entry_of, entries_by, Kept, Stage, Good}
use Rattle.promises.proofs.JobLaws.{committed_closed}
use Rattle.promises.proofs.Legal.{count, pile, open_jobs, none_by, same, more}
use Rattle.promises.proofs.Membership.{In, here, there}
use Rattle.promises.proofs.Operations.{did_append, performed_safe}
use Rattle.promises.proofs.OwedLaws.{room_put}
use Rattle.promises.proofs.Piles.{pile_page, pile_pending}
use Rattle.promises.proofs.Safety.{SafeAppend, Dids, none, next, Grown}
use Rattle.promises.proofs.Serves.{job_open, job_next, last_is_count, room_read, ended_good, ReachedFromAny, serves_on}
use Rattle.promises.proofs.TableLaws.{bare_with_next, held_with_next, is_held_with_next, held_is_held}

pub none_from : {C : Type 0} (j : ℕ) (xs : List (Numbered C)) → ((x : Numbered C) → In x xs → x.record'.job ≡ j → ⊥) → none_by j xs ≡ true
none_from j [] f = refl
none_from j (x ∷ xs) f = and_from _ _ (not_from_false _ (ne_eqb x.record'.job j (f x (here refl)))) (none_from j xs (λ y i. f y (there i)))

module _ {C : Type 0} (m : Meaning C) (law : Lawful m) where
  pub did_one : (h : Ledger C) (d e : Devices) (s : Slot C) → Kept m h d → SafeAppend m h d s → Dids m (append s ∷ []) d e → Grown m (s ∷ []) d e
  did_one h d e s k safe (next a none) = did_append m law h d e s k safe a

  -- what was asked
  record Asked (d : Devices) (s : Working) (j p lrc : ℕ) : Type 0 where
    job : is_job j s.jobs ≡ true
    page : in_store d p ≡ true
    held : held_by j p s.jobs ≡ true
    last : follows_last m d s p lrc ≡ true
    room : has_room m d s 2 ≡ true

  module _ (h : Ledger C) (j p lrc : ℕ) (c : C) (d : Devices) (s : Working) (k : Kept m h d) (st : Stage m h d (serving s)) (a : Asked d s j p lrc) where
    open_now : is_open (whole m d) j ≡ true
    open_now = sym (job_open m d s k.durable st.1 j) ∙ a.job

    own : next_slot d ≡ new_number (whole m d)
    own = ap suc (sym (whole_length m d))

    alone : (i : ℕ) → is_open (whole m d) i ≡ true → eqb i j ≡ false → none_by i (pile (whole m d) p) ≡ true
    alone i o ne = none_from i (pile (whole m d) p) (λ x y e. eqb-false i j ne (holds x y e))
      where
        holds : (x : Numbered C) → In x (pile (whole m d) p) → x.record'.job ≡ i → i ≡ j
        holds x y e =
            let z : In x (pending (whole m d) i) = subst (λ n. In x (pending (whole m d) n)) e (pile_pending (size d) d.log.capacity (whole m d) p x k.durable.legal k.durable.exclusive y) in
            st.1.one i j p (subst (λ q. held_by i q s.jobs ≡ true) (pile_page (whole m d) p x y) (st.1.changed i x o z)) a.held

    safe_record : SafeAppend m h d (Record (change_for m j p lrc s c))
    safe_record = record {
      fits = record {
        opened = open_now;
        inside = ltb-true _ _ a.page;
        numbered = eqb-true _ _ a.last ∙ ap suc (last_is_count m d s k.durable st.1 p);
        follows = job_next m d s k.durable st.1 j open_now;
      };
      room = room_put (size d) d.log.capacity (whole m d) (change_for m j p lrc s c) k.durable.legal open_now refl (room_read m d s k.durable st.1 2 a.room);
      alone = alone;
      honest = tt;
    }

    goes_record : (forced : ℕ) → d.log.forced ≤ forced → ReachedFromAny m (Some (Record (change_for m j p lrc s c)) ∷ whole m d) forced s (with_next j (next_slot d) s.jobs)
    goes_record forced up = let n = next_slot d in let sv = st.1 in record {
      table = bare_with_next j n s.jobs ∙ (ap (with_next j n) sv.jobs ∙ ap (λ i. with_next j i (open_jobs (whole m d))) own);
      one = λ i l q x y. sv.one i l q (sym (held_with_next j n i q s.jobs) ∙ x) (sym (held_with_next j n l q s.jobs) ∙ y);
      changed = λ i x o y. held_with_next j n i x.record'.page s.jobs ∙ held i x (sv.changed i x o) y;
      complete = λ q e. complete q (sym (is_held_with_next j n q s.jobs) ∙ e);
      young = sv.young;
      opened = λ i o. let u = sv.opened i o in omega arith;
    }
      where
        -- the new change is of a page that the job holds
        held : (i : ℕ) (x : Numbered C) → (In x (pending (whole m d) i) → held_by i x.record'.page s.jobs ≡ true)
            → In x (pending (Some (Record (change_for m j p lrc s c)) ∷ whole m d) i) → held_by i x.record'.page s.jobs ≡ true
        held i x old y = go (eqb j i) refl y
          where
            go : (t : Bool) → eqb j i ≡ t
                → In x (cond t (record { number = new_number (whole m d); record' = change_for m j p lrc s c } ∷ pending (whole m d) i) (pending (whole m d) i))
                → held_by i x.record'.page s.jobs ≡ true
            go true e (here q) = ap (λ (z : Numbered C). held_by i z.record'.page s.jobs) q ∙ (ap (λ (z : ℕ). held_by z p s.jobs) (sym (eqb-true j i e)) ∙ a.held)
            go true e (there y) = old y
            go false e y = old y

        complete : (q : ℕ) → is_held q s.jobs ≡ false → (copy_of s.copies q).lrc ≡ count (Some (Record (change_for m j p lrc s c)) ∷ whole m d) q
        complete q e = rw (ne_eqb p q (λ f. both_ways _ e (held_is_held j q s.jobs (ap (λ (z : ℕ). held_by j z s.jobs) (sym f) ∙ a.held)))) ((st.1.copies q).complete e)

    live_now : live (whole m d) j ≡ true
    live_now = or_left _ _ open_now

    not_committed : is_committed (whole m d) j ≡ false
    not_committed = go (is_committed (whole m d) j) refl
      where
        go : (t : Bool) → is_committed (whole m d) j ≡ t → t ≡ false
        go true e = absurd (both_ways _ (committed_closed (size d) d.log.capacity (whole m d) j k.durable.legal e) open_now)
        go false e = refl

    -- The ledger with the entry

    entered : (q : ℕ) → entries_by (live (whole m d)) q (with_entry j p (Some c) h).entries ≡ map entry_of (pile (Some (Record (change_for m j p lrc s c)) ∷ whole m d) q)
    entered q = rw live_now (go (eqb p q) (st.2 q))
      where
        go : (t : Bool) → entries_by (live (whole m d)) q h.entries ≡ map entry_of (pile (whole m d) q)
            → cond (t && true) (record { job = j; page = p; change = c } ∷ entries_by (live (whole m d)) q h.entries) (entries_by (live (whole m d)) q h.entries)
            ≡ map entry_of (cond t (record { number = new_number (whole m d); record' = change_for m j p lrc s c } ∷ pile (whole m d) q) (pile (whole m d) q))
        go true i = ap (λ (es : List (Entry C)). record { job = j; page = p; change = c } ∷ es) i
        go false i = i

    kept_noted : (e : Devices) → Kept m h e → Grown m (Record (change_for m j p lrc s c) ∷ []) d e → Kept m (with_entry j p (Some c) h) e
    kept_noted e k' g = record {
      durable = k'.durable;
      book = record {
        entries = λ q. rw (ap (λ L. is_committed L j) g.log ∙ not_committed, and_right (eqb p q) false refl) (k'.book.entries q);
        committed = k'.book.committed;
        kept = k'.book.kept;
        old = old;
      };
    }
      where
        old : (x : Entry C) → In x (with_entry j p (Some c) h).entries → x.job ≤ e.log.forced
        old x (here q) = let a = ap (λ (y : Entry C). y.job) q in let b = st.1.opened j open_now in let up = g.raised in omega arith
        old x (there i) = k'.book.old x i

    recorded_good : (e : Devices) → Kept m h e → Grown m (Record (change_for m j p lrc s c) ∷ []) d e
        → Good m (with_entry j p (Some c) h) (record { devices = e; memory = with_jobs s (with_next j (next_slot d) s.jobs) })
    recorded_good e k' g = record {
      kept = kept_noted e k' g;
      stage = (
        record { none = st.0.none; exact = λ i. st.0.exact i ∙ ap (λ L. is_committed L i) (sym g.log) },
        serves_on m d e _ s _ st.1 k'.durable g.log (more same) g.pages (g.power st.1.power.log) (goes_record e.log.forced g.raised),
        λ q. subst (λ (L : Log C). entries_by (live L) q (with_entry j p (Some c) h).entries ≡ map entry_of (pile L q)) (sym g.log) (entered q),
      );
    }

  pub record_good : (h : Ledger C) (j p lrc : ℕ) (bytes : List ℕ) (d : Devices) (s : Working) (r : Result (Unit {0}) Refusal) (v : World) → Kept m h d → Stage m h d (serving s)
      → Does m (record_in m j p lrc bytes d s) (record { devices = d; memory = serving s }) r v → Good m (told_service m (records j p lrc bytes) r h) v
  record_good h j p lrc bytes d s r v k st x = asked m Q same (λ e₁ x₁. asked m Q same (λ e₂ x₂. asked m Q same (λ e₃ x₃. asked m Q same (λ e₄ x₄. asked m Q same (λ e₅ x₅. asked m Q same (λ e₆ x₆.
      go (m.reads bytes) refl e₄ (record { job = e₁; page = e₂; held = e₃; last = e₅; room = e₆ }) x₆) x₅) x₄) x₃) x₂) x₁) x
    where
      Q : Result (Unit {0}) Refusal → World → Type 0
      Q r v = Good m (told_service m (records j p lrc bytes) r h) v

      told : Result (Unit {0}) Refusal → Ledger C
      told r = told_service m (records j p lrc bytes) r h

      same : Good m h (record { devices = d; memory = serving s })
      same = record { kept = k; stage = st }

      after : Memory
      after = with_jobs s (with_next j (next_slot d) s.jobs)

      go : (o : Option C) → m.reads bytes ≡ o → is_some o ≡ true → Asked d s j p lrc → Does m (recorded m j p lrc d s o) (record { devices = d; memory = serving s }) r v → Q r v
      go None e some a y = absurd (false≢true some)
      go (Some c) e some a y =
          let safe = safe_record h j p lrc c d s k st a in
          ended_good m told h (Ok tt) after (append (Record (change_for m j p lrc s c)) ∷ []) d r v (λ why n. refl)
          (λ ds k'. subst (λ (o : Option C). Good m (with_entry j p o h) (record { devices = v.devices; memory = after })) (sym e)
          (recorded_good h j p lrc c d s k st a v.devices k' (did_one h d v.devices (Record (change_for m j p lrc s c)) k safe ds)))
          (performed_safe m law h (Ok tt) after (append (Record (change_for m j p lrc s c)) ∷ []) d r v k (safe, λ f z. tt) (performing m y))
