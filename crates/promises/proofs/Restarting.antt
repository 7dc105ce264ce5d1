-- What analysis and redo come to in a good state: they are accepted, and the next stage is good again.
use Rattle.std.proofs.Common.{◌≡◌, ℕ, [], length, Ok, Err, Result, sym, refl, ◌∙◌, subst, arith}
use Rattle.std.proofs.lemmas.Bool.{false≢true}
use Rattle.format.specs.Changes.{Meaning}
use Rattle.rules.specs.declared.refusal.Refusal.{Refusal}
use Rattle.rules.specs.declared.refusal.Refusal.TheVariants.{NotTheNextPass}
use Rattle.rules.specs.Ledger.{Ledger}
use Rattle.rules.specs.Plans.{Plan, powers_on, Performed, done, Does, refused, granted, began, powered_on}
use Rattle.rules.specs.Reading.{last_end}
use Rattle.rules.specs.Restart.{whole, found_in, analysed_plan, analysis_plan, redo_plan, redone_plan, replayed, Replay, stored_pages}
use Rattle.rules.specs.State.{Devices, Found, Memory, out, analysed, redone, serving, World, slots}
use Rattle.rules.specs.Tables.{least_start}
use Rattle.promises.proofs.Analysis.{AnalysisTrue, analysis_done, last_ends, last_inside}
use Rattle.promises.proofs.Asking.{asked, answered, insisted, performing, readied}
use Rattle.promises.proofs.Invariants.{Kept, Powered, Settled, Analysed, Redone, Good}
use Rattle.promises.proofs.Redo.{none_ahead_true, ReplayedTrue, redo_replays, redone_with, redo_done}

module _ {C : Type 0} (m : Meaning C) where
  -- no operation is left: the answer and the memory are as planned
  pub performed_none : {A : Type 0} {answer : Result A Refusal} {after : Memory} {d : Devices} {r : Result A Refusal} {w : World}
      → Performed m answer after [] d r w → (r ≡ answer) × (w ≡ record { devices = d; memory = after })
  performed_none done = (refl, refl)

  powered_then : {A : Type 0} {f : Devices → Plan C A} {w v : World} {r : Result A Refusal} → Does m (powers_on f) w r v
      → Does m (f (powered_on w.devices)) (record { devices = powered_on w.devices; memory = out }) r v
  powered_then {f = f} {v = v} {r = r} (began d e x) = subst (λ (d : Devices). Does m (f d) (record { devices = d; memory = out }) r v) e x

  -- Analysis

  pub record Analyses (w : World) (r : Result (ℕ × ℕ × ℕ) Refusal) (v : World) : Type 0 where
    pub found : Found
    pub finds : found_in (whole m (powered_on w.devices)) (last_end (slots (powered_on w.devices))) ≡ Ok found
    pub answer : r ≡ Ok (found.first, length found.jobs, length found.dirty)
    pub leaves : v ≡ record { devices = powered_on w.devices; memory = analysed found }
    pub stage : Analysed m (powered_on w.devices) found

  powered_now : (d : Devices) → Powered m (powered_on d)
  powered_now d = record { pages = refl; log = refl }

  pub analysis_comes : (h : Ledger C) (w v : World) (r : Result (ℕ × ℕ × ℕ) Refusal) → Good m h w → Kept m h (powered_on w.devices) → Does m (analysis_plan m w) w r v → Analyses w r v
  analysis_comes h w v r g k (refused e) = absurd (false≢true (sym e ∙ g.kept.durable.sizes))
  analysis_comes h w v r g k (granted e x) = found (found_in (whole m d) (last_end (slots d))) t.finds (powered_then x)
    where
      d : Devices
      d = powered_on w.devices

      t : AnalysisTrue m d (last_end (slots d))
      t = analysis_done m d (last_end (slots d)) k.durable (powered_now w.devices) (last_ends m d k.durable) (last_inside m d)

      found : (o : Result Found Refusal) → o ≡ Ok t.found → Does m (analysed_plan o) (record { devices = d; memory = out }) r v → Analyses w r v
      found (Err why) e x = let z : ◌≡◌ {A = ℕ} 0 1 = cc in absurd (omega arith)
      found (Ok f) e x =
          let p = performed_none (performing m x) in
          let same : f ≡ t.found = cc in
          record {
            found = f;
            finds = t.finds ∙ sym e;
            answer = p.0;
            leaves = p.1;
            stage = subst (Analysed m d) (sym same) t.analysed;
          }

  -- Redo

  pub record Redoes (d : Devices) (f : Found) (r : Result (ℕ × ℕ) Refusal) (v : World) : Type 0 where
    pub res : Replay
    pub replays : replayed m d f.dirty (stored_pages m d) ≡ Ok res
    pub answer : r ≡ Ok (least_start f.dirty, res.count)
    pub leaves : v ≡ record { devices = d; memory = redone (redone_with m f res) }
    pub stage : Redone m d (redone_with m f res)

  -- after analysis it makes every copy whole
  pub redo_next : (h : Ledger C) (d : Devices) (f : Found) (v : World) (r : Result (ℕ × ℕ) Refusal) → Good m h (record { devices = d; memory = analysed f })
      → Does m (redo_plan m (record { devices = d; memory = analysed f })) (record { devices = d; memory = analysed f }) r v → Redoes d f r v
  redo_next h d f v r g x = go (replayed m d f.dirty (stored_pages m d)) t.replays
      (insisted m (none_ahead_true m d g.kept.durable) (readied m g.stage.1.power (answered m refl x)))
    where
      t : ReplayedTrue m d f.dirty
      t = redo_replays m d f g.kept.durable g.stage.1

      go : (o : Result Replay Refusal) → o ≡ Ok t.res → Does m (redone_plan m f (least_start f.dirty) o) (record { devices = d; memory = analysed f }) r v → Redoes d f r v
      go (Err why) e x = let z : ◌≡◌ {A = ℕ} 0 1 = cc in absurd (omega arith)
      go (Ok res) e x =
          let p = performed_none (performing m x) in
          record {
            res = res;
            replays = t.replays ∙ sym e;
            answer = p.0;
            leaves = p.1;
            stage = redo_done m d f res g.kept.durable g.stage.1 (t.replays ∙ sym e);
          }

  -- in every stage: it is refused where it is not the next pass
  pub redo_comes : (Q : Result (ℕ × ℕ) Refusal → World → Type 0) (h : Ledger C) (d : Devices) (memory : Memory) (v : World) (r : Result (ℕ × ℕ) Refusal) → Good m h (record { devices = d; memory = memory })
      → Q (Err NotTheNextPass) (record { devices = d; memory = memory })
      → ((f : Found) → memory ≡ analysed f → Settled m h d → Redoes d f r v → Q r v)
      → Does m (redo_plan m (record { devices = d; memory = memory })) (record { devices = d; memory = memory }) r v → Q r v
  redo_comes Q h d out v r g nay aye x = asked m Q nay (λ e y. absurd (false≢true e)) x
  redo_comes Q h d (redone s) v r g nay aye x = asked m Q nay (λ e y. absurd (false≢true e)) x
  redo_comes Q h d (serving s) v r g nay aye x = asked m Q nay (λ e y. absurd (false≢true e)) x
  redo_comes Q h d (analysed f) v r g nay aye x = aye f refl g.stage.0 (redo_next h d f v r g x)
