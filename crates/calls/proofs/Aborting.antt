-- Abort in the words of its plan: the changes of one job taken back down its chain of links, and the whole. Assumes nothing.
use Rattle.std.proofs.Common.{◌≡◌, ℕ, zero, suc, ◌<◌, ◌≤◌, Bool, true, false, cond, eqb, List, [], ◌∷◌, take, is_some, Some, None, Ok, Err, Option, Result, set, sym, refl, ap, subst, ◌∙◌, arith}
use Rattle.std.specs.Option.{unwrap_or, option_map}
use Rattle.std.proofs.lemmas.Bool.{ne_eqb}
use Rattle.format.specs.declared.page.Page.{Page}
use Rattle.format.specs.declared.slot.Slot.TheVariants.{Record, Job}
use Rattle.format.specs.declared.slot.PageRecord.{PageRecord}
use Rattle.format.specs.declared.slot.JobEvent.TheVariants.{End}
use Rattle.format.specs.Changes.{Meaning, Lawful}
use Rattle.rules.specs.declared.refusal.Refusal.{Refusal}
use Rattle.rules.specs.declared.refusal.Refusal.TheVariants.{JobNotOpen, LogUnreadable}
use Rattle.rules.specs.declared.table.JobEntry.{JobEntry}
use Rattle.rules.specs.Plans.{append, Did, Failed, done, next, failed, Does, refused, granted, performed}
use Rattle.rules.specs.Playing.{play}
use Rattle.rules.specs.Reading.{known, at}
use Rattle.rules.specs.Service.{copy_of, holds_of, Work, Stopped, change_of, compensation, finished, taken_back, then_back, all_back, aborted, completed, abort_in, log_read}
use Rattle.rules.specs.State.{Devices, World, Working, out, serving, size, slots, log_length}
use Rattle.rules.specs.Tables.{Jobs, find_job, next_of, without_job}
use Rattle.promises.proofs.AnyDevicesBack.{change_found}
use Rattle.promises.proofs.AnyDevicesScans.{at_inside}
use Rattle.promises.proofs.AnyDevicesSlots.{each_at, Fits, known_fits, record_inside}
use Rattle.promises.proofs.Decoded.{known_length}
use Rattle.calls.specs.Readers.{read_up_to}
use Rattle.calls.specs.TakingBack.{FirstOf, all, more, BreaksOff, stops, fails, OutcomeOfAppends, brought_up, job_taken_back, WorkDone}
use Rattle.calls.proofs.Appending.{nothing_done, before_more, appended_then, broke_off, gave_up, change_done, same_change}
use Rattle.calls.proofs.Committing.{holds_in, holds_found}

-- The changes of one job

-- links fall
pub links_fall : {C : Type 0} (m : Meaning C) (d : Devices) (first : ℕ) → Lawful m → (j last n : ℕ) (r : PageRecord C) → Some r ≡ change_of j (at (read_up_to m d first last) n) → r.link < n
links_fall m d first law j last n r e =
    let L = read_up_to m d first last in
    let found = change_found j (at L n) r (sym e) in
    let range = at_inside L n (Record r) found.is in
    (record_inside m (size d) n r (subst (Fits m law (size d) n) found.is (each_at (Fits m law (size d)) L n (known_fits m law (size d) first (take last (slots d))) range.0 range.1))).link

module _ {C : Type 0} (m : Meaning C) where
  grows_back : (fuel j n : ℕ) (k : Work C) → FirstOf k.appended (all_back m fuel j n k).work.appended
  grows_back zero j n k = all
  grows_back (suc fuel) j n k = go (eqb n 0) (change_of j (at k.log n)) (λ r. grows_back fuel j r.link (taken_back m r k))
    where
      go : (b : Bool) (x : Option (PageRecord C)) → ((r : PageRecord C) → FirstOf (taken_back m r k).appended (all_back m fuel j r.link (taken_back m r k)).work.appended)
          → FirstOf k.appended (cond b (finished k) (then_back m (all_back m fuel j) k x)).work.appended
      go true x ih = all
      go false None ih = all
      go false (Some r) ih = before_more (more all) (ih r)

  -- E is what the whole comes to, from devices d
  module _ (first j : ℕ) (d : Devices) (E : Stopped C) where
    -- from number n on the rest of it
    pub record Going (n : ℕ) (e : Devices) (copies : List Page) : Type 0 where
      pub fuel : ℕ
      pub work : Work C
      pub enough : n ≤ fuel
      pub work_done : WorkDone m (known m (size d) first (slots d)) d work e copies
      pub rest : E ≡ all_back m fuel j n work

    record Turning (n : ℕ) (e : Devices) (copies : List Page) : Type 0 where
      fuel : ℕ
      work : Work C
      enough : n ≤ suc fuel
      work_done : WorkDone m (known m (size d) first (slots d)) d work e copies
      rest : E ≡ then_back m (all_back m fuel j) work (change_of j (at (read_up_to m e first (log_length d)) n))

    turning : {n : ℕ} {e : Devices} {copies : List Page} → 0 < n → Going n e copies → Turning n e copies
    turning {n = n} {e = e} {copies = copies} one g = go g.fuel g.enough g.rest
      where
        go : (fuel : ℕ) → n ≤ fuel → E ≡ all_back m fuel j n g.work → Turning n e copies
        go zero le q = absurd (omega arith)
        go (suc fuel) le q = record {
          fuel = fuel;
          work = g.work;
          enough = le;
          work_done = g.work_done;
          rest = q ∙ (ap (λ b. cond b (finished g.work) (then_back m (all_back m fuel j) g.work (change_of j (at g.work.log n)))) (ne_eqb n 0 (λ z. omega arith))
              ∙ ap (then_back m (all_back m fuel j) g.work) (sym (same_change m first j n g.work_done)));
        }

    pub begins : {n : ℕ} {copies : List Page} → E ≡ job_taken_back m d j n first copies → Going n d copies
    begins {n = n} q = record {
      fuel = n;
      work = record { log = known m (size d) first (slots d); copies = _; appended = [] };
      enough = omega arith;
      work_done = nothing_done m (known m (size d) first (slots d)) d _ (known_length m (size d) first (slots d));
      rest = q;
    }

    module _ {n : ℕ} {e : Devices} {copies : List Page} (one : 0 < n) (g : Going n e copies) where
      t : Turning n e copies
      t = turning one g

      pub no_change : None ≡ change_of j (at (read_up_to m e first (log_length d)) n) → BreaksOff m E.work.appended E.why d LogUnreadable e
      no_change none = let q : E ≡ _ = t.rest ∙ ap (then_back m (all_back m t.fuel j) t.work) (sym none) in
          subst (λ E. BreaksOff m E.work.appended E.why d LogUnreadable e) (sym q) (stops refl t.work_done.appended)

      module _ (r : PageRecord C) (found : Some r ≡ change_of j (at (read_up_to m e first (log_length d)) n)) where
        one_off : E ≡ all_back m t.fuel j r.link (taken_back m r t.work)
        one_off = t.rest ∙ ap (then_back m (all_back m t.fuel j) t.work) (sym found)

        pub one_back : {f : Devices} → Lawful m → Did m (append (Record (compensation r (copy_of copies r.page)))) e f
            → Going r.link f (set copies r.page (play m (compensation r (copy_of copies r.page)) (copy_of copies r.page)))
        one_back law x = let less = links_fall m e first law j (log_length d) n r found in let le = t.enough in record {
          fuel = t.fuel;
          work = taken_back m r t.work;
          enough = omega arith;
          work_done = change_done m r (let k = known_length m (size d) first (slots d) in omega arith) t.work_done x;
          rest = one_off;
        }

        pub one_fails : {f : Devices} {why : Refusal} → Failed m (append (Record (compensation r (copy_of copies r.page)))) e why f → BreaksOff m E.work.appended E.why d why f
        one_fails {f = f} {why = why} x = subst (λ E. BreaksOff m E.work.appended E.why d why f) (sym one_off)
            (subst (λ cs. Failed m (append (Record (compensation r (copy_of cs r.page)))) e why f → BreaksOff m (all_back m t.fuel j r.link (taken_back m r t.work)).work.appended (all_back m t.fuel j r.link (taken_back m r t.work)).why d why f) t.work_done.copies_are
            (λ y. fails (grows_back t.fuel j r.link (taken_back m r t.work)) t.work_done.appended y) x)

-- The plan

found_next : (j : ℕ) (jobs : Jobs) (x : JobEntry) → find_job j jobs ≡ Some x → next_of j jobs ≡ x.next
found_next j jobs x e = ap (λ o. unwrap_or (option_map (λ (y : JobEntry). y.next) o) 0) e

found_holds : (j : ℕ) (jobs : Jobs) (x : JobEntry) → find_job j jobs ≡ Some x → holds_of j jobs ≡ x.holds
found_holds j jobs x e = holds_found j jobs ∙ ap holds_in e

module _ {C : Type 0} (m : Meaning C) (d : Devices) (s : Working) (j : ℕ) where
  pub no_job : {v : World} {r : Result (Unit {0}) Refusal} → find_job j s.jobs ≡ None → r ≡ Err JobNotOpen → record { devices = d; memory = serving s } ≡ v
      → Does m (abort_in m j d s) (record { devices = d; memory = serving s }) r v
  no_job {v = v} {r = r} none e same = subst (λ r. Does m (abort_in m j d s) (record { devices = d; memory = serving s }) r v) (sym e)
      (subst (λ v. Does m (abort_in m j d s) (record { devices = d; memory = serving s }) (Err JobNotOpen) v) same (refused (ap is_some none)))

  module _ (x : JobEntry) (open_job : find_job j s.jobs ≡ Some x) {cs : List Page} (brought : cs ≡ brought_up m x.holds (log_read m d s) s.copies) where
    abbrev back : Stopped C
    back = job_taken_back m d j x.next s.first cs

    abort_goes : {v : World} {r : Result (Unit {0}) Refusal} → Does m (aborted m s j back.work back.why) (record { devices = d; memory = serving s }) r v
        → Does m (abort_in m j d s) (record { devices = d; memory = serving s }) r v
    abort_goes {v = v} {r = r} y = granted (ap is_some open_job)
        (subst (λ (e : Stopped C). Does m (aborted m s j e.work e.why) (record { devices = d; memory = serving s }) r v) (sym same) y)
      where
        same : all_back m (next_of j s.jobs) j (next_of j s.jobs) (record { log = log_read m d s; copies = completed m d s j; appended = [] }) ≡ back
        same = rw (found_next j s.jobs x open_job, found_holds j s.jobs x open_job, brought) refl

    pub abort_breaks : {e : Devices} {why : Refusal} {r : Result (Unit {0}) Refusal} → r ≡ Err why → BreaksOff m back.work.appended back.why d why e
        → Does m (abort_in m j d s) (record { devices = d; memory = serving s }) r (record { devices = e; memory = out })
    abort_breaks {e = e} {why = why} {r = r} is y = abort_goes (subst (λ r. Does m (aborted m s j back.work back.why) (record { devices = d; memory = serving s }) r (record { devices = e; memory = out })) (sym is)
        (go back.work back.why y))
      where
        go : (k : Work C) (stop : Option Refusal) → BreaksOff m k.appended stop d why e → Does m (aborted m s j k stop) (record { devices = d; memory = serving s }) (Err why) (record { devices = e; memory = out })
        go k None b = performed (broke_off m (append (Job End j) ∷ []) b)
        go k (Some z) b = performed (gave_up m z b)

    pub abort_end_fails : {e f : Devices} {why : Refusal} {r : Result (Unit {0}) Refusal} → r ≡ Err why → OutcomeOfAppends m back.work.appended back.why d (Ok tt) e → Failed m (append (Job End j)) e why f
        → Does m (abort_in m j d s) (record { devices = d; memory = serving s }) r (record { devices = f; memory = out })
    abort_end_fails {f = f} {why = why} {r = r} is y z = abort_goes (subst (λ r. Does m (aborted m s j back.work back.why) (record { devices = d; memory = serving s }) r (record { devices = f; memory = out })) (sym is)
        (subst (λ stop. Does m (aborted m s j back.work stop) (record { devices = d; memory = serving s }) (Err why) (record { devices = f; memory = out })) (sym y.0)
        (performed (appended_then m y.1 (failed z)))))

    pub abort_ends : {e f : Devices} {copies : List Page} {jobs : Jobs} → OutcomeOfAppends m back.work.appended back.why d (Ok tt) e → copies ≡ back.work.copies → jobs ≡ without_job j s.jobs → Did m (append (Job End j)) e f
        → Does m (abort_in m j d s) (record { devices = d; memory = serving s }) (Ok tt) (record { devices = f; memory = serving (record { copies = copies; jobs = jobs; first = s.first }) })
    abort_ends {f = f} {copies = copies} {jobs = jobs} y ps js z = abort_goes (subst (λ stop. Does m (aborted m s j back.work stop) (record { devices = d; memory = serving s }) (Ok tt) (record { devices = f; memory = serving (record { copies = copies; jobs = jobs; first = s.first }) })) (sym y.0)
        (rw (ps, js) (performed (appended_then m y.1 (next z done)))))
