-- The plan of undo: what a part of it appends comes after what was there, and once it stops it goes no further. Assumes nothing.
use Rattle.std.proofs.Common.{◌≡◌, ℕ, zero, suc, Bool, true, false, cond, eqb, List, [], ◌∷◌, is_some, Some, None, Option, sym, refl, ap, subst, ◌∙◌}
use Rattle.std.proofs.lemmas.Bool.{cond-true, cond-false}
use Rattle.format.specs.declared.slot.Slot.{Slot}
use Rattle.format.specs.declared.slot.PageRecord.{PageRecord}
use Rattle.format.specs.Changes.{Meaning}
use Rattle.rules.specs.declared.refusal.Refusal.{Refusal}
use Rattle.rules.specs.declared.refusal.Refusal.TheVariants.{LogFull}
use Rattle.rules.specs.declared.table.JobEntry.{JobEntry}
use Rattle.rules.specs.Reading.{at}
use Rattle.rules.specs.Restart.{Undoing, Undone, latest, goes_on, gives_up, has_slot, ended, then_undo, end_job, end_idle, compensated, undo_change, undo_latest, undo_all}
use Rattle.rules.specs.Service.{change_of}
use Rattle.rules.specs.State.{Devices}
use Rattle.rules.specs.Tables.{Jobs}
use Rattle.calls.specs.TakingBack.{FirstOf, all, more, stops, fails, UndoBreaksOff, end_if_done, turn}
use Rattle.calls.proofs.Appending.{before_more}

module _ {C : Type 0} (m : Meaning C) (capacity : ℕ) where
  -- What a part appends comes after what was there

  grows_end : (j : ℕ) (u : Undoing C) → FirstOf u.work.appended (end_job m capacity j u).state.work.appended
  grows_end j u = go (has_slot m capacity u)
    where
      go : (b : Bool) → FirstOf u.work.appended (cond b (goes_on m (ended m j u)) (gives_up m LogFull u)).state.work.appended
      go true = more all
      go false = all

  pub grows_if : (next j : ℕ) (u : Undoing C) → FirstOf u.work.appended (end_if_done m capacity next j u).state.work.appended
  grows_if next j u = go (eqb next 0)
    where
      go : (b : Bool) → FirstOf u.work.appended (cond b (end_job m capacity j u) (goes_on m u)).state.work.appended
      go true = grows_end j u
      go false = all

  grows_change : (e : JobEntry) (u : Undoing C) (x : Option (PageRecord C)) → FirstOf u.work.appended (undo_change m capacity e u x).state.work.appended
  grows_change e u None = all
  grows_change e u (Some r) = before_more (more all) (grows_if r.link e.job (compensated m e r u))

  grows_turn : (e : JobEntry) (u : Undoing C) → FirstOf u.work.appended (turn m capacity e u).state.work.appended
  grows_turn e u = go (has_slot m capacity u)
    where
      go : (b : Bool) → FirstOf u.work.appended (cond b (undo_change m capacity e u (change_of e.job (at u.work.log e.next))) (gives_up m LogFull u)).state.work.appended
      go true = grows_change e u (change_of e.job (at u.work.log e.next))
      go false = all

  grows_then : {ss : List (Slot C)} (f : Undoing C → Undone C) (r : Undone C) → ((u : Undoing C) → FirstOf u.work.appended (f u).state.work.appended)
      → FirstOf ss r.state.work.appended → FirstOf ss (then_undo m f r).state.work.appended
  grows_then {ss = ss} f r grows b = go (is_some r.why)
    where
      go : (t : Bool) → FirstOf ss (cond t r (f r.state)).state.work.appended
      go true = b
      go false = before_more b (grows r.state)

  -- a turn, and what comes after it
  pub latest_is : (rest : Undoing C → Undone C) (u : Undoing C) (e : JobEntry) → undo_latest m capacity rest u (Some e) ≡ then_undo m rest (turn m capacity e u)
  latest_is rest u e = go (has_slot m capacity u)
    where
      go : (b : Bool) → let r = undo_change m capacity e u (change_of e.job (at u.work.log e.next)) in
          cond b (then_undo m rest r) (gives_up m LogFull u) ≡ then_undo m rest (cond b r (gives_up m LogFull u))
      go true = refl
      go false = refl

  pub grows_all : (fuel : ℕ) (u : Undoing C) → FirstOf u.work.appended (undo_all m capacity fuel u).state.work.appended
  grows_all zero u = all
  grows_all (suc fuel) u = go (latest u.jobs) (λ v. grows_all fuel v)
    where
      go : (o : Option JobEntry) → ((v : Undoing C) → FirstOf v.work.appended (undo_all m capacity fuel v).state.work.appended)
          → FirstOf u.work.appended (undo_latest m capacity (undo_all m capacity fuel) u o).state.work.appended
      go None ih = all
      go (Some e) ih = subst (λ (r : Undone C). FirstOf u.work.appended r.state.work.appended) (sym (latest_is (undo_all m capacity fuel) u e))
          (grows_then (undo_all m capacity fuel) (turn m capacity e u) ih (grows_turn e u))

  grows_idle : (xs : Jobs) (r : Undone C) → FirstOf r.state.work.appended (end_idle m capacity xs r).state.work.appended
  grows_idle [] r = all
  grows_idle (x ∷ xs) r = before_more (go (eqb x.next 0)) (grows_idle xs (cond (eqb x.next 0) (then_undo m (end_job m capacity x.job) r) r))
    where
      go : (b : Bool) → FirstOf r.state.work.appended (cond b (then_undo m (end_job m capacity x.job) r) r).state.work.appended
      go true = grows_then (end_job m capacity x.job) r (grows_end x.job) all
      go false = all

  -- Once it stops it goes no further

  then_stays : (f : Undoing C → Undone C) (r : Undone C) (why : Refusal) → r.why ≡ Some why → then_undo m f r ≡ r
  then_stays f r why e = cond-true (is_some r.why) r (f r.state) (ap is_some e)

  pub then_goes : (f : Undoing C → Undone C) (r : Undone C) → r.why ≡ None → then_undo m f r ≡ f r.state
  then_goes f r e = cond-false (is_some r.why) r (f r.state) (ap is_some e)

  idle_stays : (xs : Jobs) (r : Undone C) (why : Refusal) → r.why ≡ Some why → end_idle m capacity xs r ≡ r
  idle_stays [] r why e = refl
  idle_stays (x ∷ xs) r why e = ap (end_idle m capacity xs) (go (eqb x.next 0)) ∙ idle_stays xs r why e
    where
      go : (b : Bool) → cond b (then_undo m (end_job m capacity x.job) r) r ≡ r
      go true = then_stays (end_job m capacity x.job) r why e
      go false = refl

  module _ {d e : Devices} {why : Refusal} where
    pub breaks_then : (f : Undoing C → Undone C) (r : Undone C) → ((u : Undoing C) → FirstOf u.work.appended (f u).state.work.appended) → UndoBreaksOff m d r why e
        → UndoBreaksOff m d (then_undo m f r) why e
    breaks_then f r grows (stops q x) = subst (λ r. UndoBreaksOff m d r why e) (sym (then_stays f r why q)) (stops q x)
    breaks_then f r grows (fails b x y) = fails (grows_then f r grows b) x y

    pub breaks_idle : (xs : Jobs) (r : Undone C) → UndoBreaksOff m d r why e
        → UndoBreaksOff m d (end_idle m capacity xs r) why e
    breaks_idle xs r (stops q x) = subst (λ r. UndoBreaksOff m d r why e) (sym (idle_stays xs r why q)) (stops q x)
    breaks_idle xs r (fails b x y) = fails (before_more b (grows_idle xs r)) x y
