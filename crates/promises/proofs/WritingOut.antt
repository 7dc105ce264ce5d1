-- Write-out keeps what holds in service, and so does whatever only marks the log and raises the stored pages up to the copies.
use Rattle.std.proofs.Common.{◌≡◌, ℕ, ◌<◌, ◌≤◌, Bool, true, false, eqb, List, [], ◌∷◌, map, length, get_or, replicate, Some, Ok, Result, sym, refl, ap, ◌∙◌, subst, arith}
use Rattle.std.proofs.lemmas.Bool.{eqb-true, eqb-false, ltb-true}
use Rattle.format.specs.declared.page.Page.{Page}
use Rattle.format.specs.declared.slot.Slot.{Slot}
use Rattle.format.specs.declared.slot.Slot.TheVariants.{Record, Job, Checkpoint}
use Rattle.format.specs.declared.slot.CheckpointPart.{CheckpointPart}
use Rattle.format.specs.Changes.{Meaning, Lawful}
use Rattle.format.specs.Pages.{page_of}
use Rattle.device.specs.PageStores.{PageModel}
use Rattle.device.specs.LogStores.{LogModel}
use Rattle.recovery_log.specs.Log.{Log, is_open, is_committed, pending}
use Rattle.rules.specs.declared.refusal.Refusal.{Refusal}
use Rattle.rules.specs.Ledger.{Ledger}
use Rattle.rules.specs.Plans.{force, write, Does}
use Rattle.rules.specs.Restart.{whole}
use Rattle.rules.specs.Runs.{writes_out, told_service}
use Rattle.rules.specs.Service.{copy_of, write_out_in}
use Rattle.rules.specs.State.{Devices, serving, World, Working, size}
use Rattle.promises.proofs.Asking.{asked, performing}
use Rattle.promises.proofs.Decoded.{whole_length}
use Rattle.promises.proofs.Invariants.{live, entry_of, stored, stored_lrcs, Kept, Powered, Copy, Serving, Stage, Good}
use Rattle.promises.proofs.Legal.{count, pile, image, open_jobs, Older, same, more}
use Rattle.promises.proofs.Membership.{In}
use Rattle.promises.proofs.Operations.{Forced, Wrote, did_force, did_write, safe_did, performed_safe}
use Rattle.promises.proofs.Serves.{first_older, ended_good, entries_alike}
use Rattle.promises.proofs.Safety.{onto, SafeWrite, SafeOps, Dids, none, next}

-- Marks of checkpoints on top of a log say nothing of jobs and pages

module _ {C : Type 0} where
  abbrev pub OnlyMarks : List (Slot C) → Type 0
  OnlyMarks [] = Unit {0}
  OnlyMarks (Record r ∷ ss) = ⊥
  OnlyMarks (Job e j ∷ ss) = ⊥
  OnlyMarks (Checkpoint c ∷ ss) = OnlyMarks ss

  pub marks_same : {X : Type 0} (f : Log C → X) → ((c : CheckpointPart) (M : Log C) → f (Some (Checkpoint c) ∷ M) ≡ f M)
      → (ss : List (Slot C)) (L : Log C) → OnlyMarks ss → f (onto ss L) ≡ f L
  marks_same f e [] L o = refl
  marks_same f e (Record r ∷ ss) L o = absurd o
  marks_same f e (Job v j ∷ ss) L o = absurd o
  marks_same f e (Checkpoint c ∷ ss) L o = e c (onto ss L) ∙ marks_same f e ss L o

  pub older_onto : (ss : List (Slot C)) (L : Log C) → Older L (onto ss L)
  older_onto [] L = same
  older_onto (s ∷ ss) L = more (older_onto ss L)

abbrev stored_in : PageModel → ℕ → Page
stored_in x p = page_of (get_or x.pages p (replicate 256 0))

module _ {C : Type 0} (m : Meaning C) where
  -- The same server over devices whose log has only more marks, and whose stored pages have grown but not above the copies
  module _ (h : Ledger C) (d e : Devices) (s : Working) (ss : List (Slot C)) (marks : OnlyMarks ss) (log : whole m e ≡ onto ss (whole m d)) (sized : size e ≡ size d)
      (raised : d.log.forced ≤ e.log.forced) (power : Powered m e) (grown : (p : ℕ) → stored_lrcs m d p ≤ stored_lrcs m e p)
      (bounded : (p : ℕ) → stored_lrcs m e p ≤ (copy_of s.copies p).lrc) where
    on : {X : Type 0} (f : Log C → X) → ((c : CheckpointPart) (M : Log C) → f (Some (Checkpoint c) ∷ M) ≡ f M) → f (whole m e) ≡ f (whole m d)
    on f e = ap f log ∙ marks_same f e ss (whole m d) marks

    opened_on : (j : ℕ) → is_open (whole m e) j ≡ is_open (whole m d) j
    opened_on j = on (λ (M : Log C). is_open M j) (λ c M. refl)

    count_on : (p : ℕ) → count (whole m e) p ≡ count (whole m d) p
    count_on p = on (λ (M : Log C). count M p) (λ c M. refl)

    copy_on : (p : ℕ) → Copy m d s p → Copy m e s p
    copy_on p c = record {
      image = c.image ∙ sym (on (λ (M : Log C). image m M p (copy_of s.copies p).lrc) (λ x M. refl));
      above = bounded p;
      below = omega (arith, c.below, count_on p);
      complete = λ n. c.complete n ∙ sym (count_on p);
    }

    serving_on : Serving m d s → Serving m e s
    serving_on v = record {
      power = power;
      jobs = v.jobs ∙ sym (on open_jobs (λ c M. refl));
      one = v.one;
      changed = λ j x o i. v.changed j x (sym (opened_on j) ∙ o) (subst (In x) (on (λ (M : Log C). pending M j) (λ c M. refl)) i);
      many = v.many ∙ sym sized;
      copies = λ p. copy_on p (v.copies p);
      first = first_older m d e (subst (Older (whole m d)) (sym log) (older_onto ss (whole m d))) s.first grown v.first;
      young = λ j o. v.young j (sym (opened_on j) ∙ o);
      opened = λ j o. let k = v.opened j (sym (opened_on j) ∙ o) in omega arith;
    }

    pub stage_on : Stage m h d (serving s) → Stage m h e (serving s)
    stage_on st = (
      record { none = st.0.none; exact = λ j. st.0.exact j ∙ sym (on (λ (M : Log C). is_committed M j) (λ c M. refl)) },
      serving_on st.1,
      λ p. entries_alike (live (whole m e)) (live (whole m d)) p h.entries (λ x i. on (λ (M : Log C). live M x.job) (λ c M. refl))
          ∙ (st.2 p ∙ sym (on (λ (M : Log C). map entry_of (pile M p)) (λ c M. refl))),
    )

module _ {C : Type 0} (m : Meaning C) (law : Lawful m) where
  module _ (h : Ledger C) (d : Devices) (s : Working) (p : ℕ) (k : Kept m h d) (st : Stage m h d (serving s)) (inside : p < size d) where
    abbrev page : Page
    page = copy_of s.copies p

    safe_write : (e : Devices) → Forced m d e → SafeWrite m e p page
    safe_write e f =
        let c = st.1.copies p in
        let same : stored m e p ≡ stored m d p = ap (λ (x : PageModel). stored_in x p) f.pages in
        record {
          inside = omega (arith, ap (λ (x : PageModel). length x.pages) f.pages);
          forced = f.all;
          image = c.image ∙ ap (λ (M : Log C). image m M p page.lrc) (sym f.log);
          above = omega (arith, ap (λ (x : Page). x.lrc) same, c.above);
          below = omega (arith, ap (λ (M : Log C). count M p) f.log, c.below);
        }

    safe_ops : SafeOps m h (force ∷ write p page ∷ []) d
    safe_ops = (tt, λ e x. (safe_write e (did_force m law d e x), λ f y. tt))

    after : (e : Devices) → Dids m (force ∷ write p page ∷ []) d e → Kept m h e → Stage m h e (serving s)
    after e (next {e = c} x (next y none)) k' =
        let f = did_force m law d c x in
        let w = did_write m law h c e p page (safe_did m law h force d c k tt x) (safe_write c f) y in
        let log = w.whole' ∙ f.log in
        let sized = w.same_size ∙ ap (λ (z : PageModel). length z.pages) f.pages in
        let long = whole_length m d in
        let lrcs : (q : ℕ) → stored_lrcs m c q ≡ stored_lrcs m d q = λ q. ap (λ (z : PageModel). (stored_in z q).lrc) f.pages in
        let each : (q : ℕ) → (stored_lrcs m d q ≤ stored_lrcs m e q) × (stored_lrcs m e q ≤ (copy_of s.copies q).lrc) = λ q. go q (eqb q p) refl w (lrcs q) in
        let raised : d.log.forced ≤ e.log.forced = omega (arith, k.durable.forced, f.all, ap length f.slots, ap (λ (z : LogModel). z.forced) w.log) in
        stage_on m h d e s [] tt log sized raised (record { pages = w.power; log = ap (λ (z : LogModel). z.powered) w.log ∙ f.power }) (λ q. (each q).0) (λ q. (each q).1) st
      where
        go : (q : ℕ) (t : Bool) → eqb q p ≡ t → Wrote m p page c e → stored_lrcs m c q ≡ stored_lrcs m d q
            → (stored_lrcs m d q ≤ stored_lrcs m e q) × (stored_lrcs m e q ≤ (copy_of s.copies q).lrc)
        go q true t w l =
            let is = eqb-true q p t in
            let now : stored_lrcs m e q ≡ (copy_of s.copies q).lrc = subst (λ (n : ℕ). stored_lrcs m e n ≡ (copy_of s.copies n).lrc) (sym is) (ap (λ (x : Page). x.lrc) w.here) in
            (omega (arith, now, (st.1.copies q).above), omega (arith, now))
        go q false t w l =
            let now : stored_lrcs m e q ≡ stored_lrcs m c q = ap (λ (x : Page). x.lrc) (w.elsewhere q (eqb-false q p t)) in
            (omega arith, omega (arith, (st.1.copies q).above))

  pub write_out_good : (h : Ledger C) (d : Devices) (s : Working) (p : ℕ) (r : Result (Unit {0}) Refusal) (v : World)
      → Kept m h d → Stage m h d (serving s) → Does m (write_out_in m p d s) (record { devices = d; memory = serving s }) r v
      → Good m (told_service m (writes_out p) r h) v
  write_out_good h d s p r v k st x = asked m (λ r v. Good m (told r) v) (record { kept = k; stage = st })
      (λ inside y. let lt = ltb-true _ _ inside in ended_good m told h (Ok tt) (serving s) _ d r v (λ why n. refl) (λ ds k'. record { kept = k'; stage = after h d s p k st lt v.devices ds k' })
      (performed_safe m law h (Ok tt) (serving s) _ d r v k (safe_ops h d s p k st lt) (performing m y))) x
    where
      told : Result (Unit {0}) Refusal → Ledger C
      told r = told_service m (writes_out p) r h
