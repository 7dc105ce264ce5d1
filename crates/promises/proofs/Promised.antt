-- The promises about every run, from what holds in every state of one.
use Rattle.std.proofs.Common.{◌≡◌, ℕ, ◌≤◌, true, ◌⊎◌, drop, Some, Ok, Err, Result, sym, refl, ap, ◌∙◌, subst, inl, inr, arith}
use Rattle.std.proofs.lemmas.Bool.{false≢true}
use Rattle.format.specs.declared.slot.Slot.TheVariants.{Job}
use Rattle.format.specs.declared.slot.JobEvent.TheVariants.{Commit}
use Rattle.format.specs.Changes.{Meaning, Lawful}
use Rattle.recovery_log.specs.Log.{Log, is_open}
use Rattle.rules.specs.declared.refusal.Refusal.{Refusal}
use Rattle.promises.specs.Compensations.{AllOnce}
use Rattle.rules.specs.Ledger.{Ledger, is_in, content_of}
use Rattle.rules.specs.Numbers.{number_of}
use Rattle.rules.specs.Plans.{Plan, Does}
use Rattle.promises.specs.Promises.{BlankBegins, LooksRight, CommitsStand, KeptExactly, CompensatedOnce, LosersUndone, CheckpointsAgree, NeverRefused, AgainNothing, CutOrNot}
use Rattle.rules.specs.Reading.{at}
use Rattle.rules.specs.Restart.{whole}
use Rattle.rules.specs.Runs.{looks, commits, in_service_plan, Reaches}
use Rattle.rules.specs.Service.{in_service}
use Rattle.rules.specs.State.{Devices, Memory, out, analysed, redone, serving, World, Working, is_serving, size}
use Rattle.promises.proofs.Asking.{in_serving}
use Rattle.promises.proofs.Beginning.{begins}
use Rattle.promises.proofs.Committing.{commit_slot}
use Rattle.promises.proofs.Cuts.{at_up_to}
use Rattle.promises.proofs.Cutting.{cut_same}
use Rattle.promises.proofs.Finishing.{undo_comes}
use Rattle.promises.proofs.Forever.{later_forever}
use Rattle.promises.proofs.Invariants.{Kept, Stage, Good, Settled}
use Rattle.promises.proofs.JobLaws.{closed_empty}
use Rattle.promises.proofs.Looking.{look_right}
use Rattle.promises.proofs.Once.{takes_back, never_twice, once_each}
use Rattle.rules.proofs.Outcomes.{held_does, held_reached}
use Rattle.promises.proofs.Powering.{kept_powered_on}
use Rattle.promises.proofs.Progress.{restart_finishes}
use Rattle.promises.proofs.Restarting.{analysis_comes, redo_comes}
use Rattle.promises.proofs.Restarts.{agrees, again}
use Rattle.promises.proofs.Runs.{runs_good}

module _ {C : Type 0} (m : Meaning C) (law : Lawful m) where
  good : (h : Ledger C) (w : World) → Reaches m h w → Good m h w
  good h w x = runs_good m law h w x

  -- a call in service that was accepted found the server serving
  serving_found : {A : Type 0} (P : Type 0) (h : Ledger C) (w v : World) (f : Working → Plan C A) (a : A) → Good m h w
      → ((s : Working) → Kept m h w.devices → Stage m h w.devices (serving s) → Does m (f s) (record { devices = w.devices; memory = serving s }) (Ok a) v → P)
      → Does m (in_service w f) w (Ok a) v → P
  serving_found P h w v f a g then x = in_serving m (λ r u. r ≡ Ok a → u ≡ v → P) h w.devices w.memory f (Ok a) v g
      (λ e i. let z : ◌≡◌ {A = ℕ} 0 1 = cc in absurd (omega arith))
      (λ s e k t y i j. then s k t (subst (λ (memory : Memory). Does m (f s) (record { devices = w.devices; memory = memory }) (Ok a) v) e y)) x refl refl

  pub looks_right : LooksRight m
  looks_right h w v p n bytes x y = serving_found (drop 4 bytes ≡ content_of m h p) h w v (in_service_plan m (looks p n) w.devices) bytes (good h w x)
      (λ s k t z. look_right m law h p n w.devices s bytes v k t z) y

  -- the slot is forced, and forced slots never change
  pub commits_stand : CommitsStand m
  commits_stand h w v u j n x y l =
      let c = serving_found ((at (whole m v.devices) n ≡ Some (Job Commit j)) × (n ≤ v.devices.log.forced)) h w v (in_service_plan m (commits j) w.devices) n (good h w x)
      (λ s k t z. commit_slot m law h j n w.devices s v k t z) y in
      let held = held_does m y (held_reached m x) in
      let f = later_forever m v u held l in
      sym (at_up_to v.devices.log.forced n (whole m u.devices) c.1) ∙ (ap (λ (L : Log C). at L n) f.stands ∙ (at_up_to v.devices.log.forced n (whole m v.devices) c.1 ∙ c.0))

  -- While the server serves, the jobs with a commit are the kept ones

  settled_serving : (h : Ledger C) (d : Devices) (memory : Memory) → Stage m h d memory → is_serving memory ≡ true → Settled m h d
  settled_serving h d out s e = absurd (false≢true e)
  settled_serving h d (analysed f) s e = s.0
  settled_serving h d (redone x) s e = s.0
  settled_serving h d (serving x) s e = s.0

  pub kept_exactly : KeptExactly m
  kept_exactly h w x e j = sym ((settled_serving h w.devices w.memory (good h w x).stage e).exact j)

  -- Compensations

  pub compensated_once : CompensatedOnce m
  compensated_once h w x = let legal = (good h w x).kept.durable.legal in
      record {
        each = takes_back (size w.devices) w.devices.log.capacity (whole m w.devices) legal;
        once = never_twice (size w.devices) w.devices.log.capacity (whole m w.devices) legal;
      }

  pub losers_undone : LosersUndone m
  losers_undone h w v a x y = undo_comes m law (λ r v. r ≡ Ok a → AllOnce (λ j. is_in j h.kept) (whole m v.devices)) h w.devices w.memory v (Ok a) (good h w x)
      (λ e. let z : ◌≡◌ {A = ℕ} 0 1 = cc in absurd (omega arith))
      (λ why st e n mem k i. let z : ◌≡◌ {A = ℕ} 0 1 = cc in absurd (omega arith))
      (λ s st mem d u k t i. once_each (size v.devices) v.devices.log.capacity (λ j. is_in j h.kept) (whole m v.devices) k.durable.legal
      (λ j no_commit. closed_empty (size v.devices) v.devices.log.capacity (whole m v.devices) j k.durable.legal
      (ap (λ (L : Log C). is_open L j) u.log ∙ u.true'.opened j)
      (sym ((settled_serving h v.devices v.memory t (ap is_serving u.memory)).exact j) ∙ no_commit))) y refl

  -- Passes are refused only where they are not the next, or power is lost

  pub never_refused : NeverRefused m
  never_refused h w x = record {
    analysis = λ v r why y e. let a = (analysis_comes m h w v r (good h w x) (kept_powered_on m h w.devices (good h w x).kept) y).answer in
        let z : ◌≡◌ {A = ℕ} 0 1 = cc in absurd (omega arith);
    redo = λ v r why y e. redo_comes m (λ r v. r ≡ Err why → number_of why ≡ 2) h w.devices w.memory v r (good h w x)
        (λ i. let j = err_same i in ap number_of (sym j)) (λ f mem s a i. let b = a.answer in let z : ◌≡◌ {A = ℕ} 0 1 = cc in absurd (omega arith)) y e;
    undo = λ v r why y e. undo_comes m law (λ r v. r ≡ Err why → (number_of why ≡ 2) ⊎ (number_of why ≡ 17)) h w.devices w.memory v r (good h w x)
        (λ i. inl (ap number_of (sym (err_same i)))) (λ which st i n mem k j. inr (ap number_of (err_same (sym j ∙ i)) ∙ n))
        (λ s st mem d u k t i. let b = u.answer in let z : ◌≡◌ {A = ℕ} 0 1 = cc in absurd (omega arith)) y e;
    finished = (restart_finishes m law h w (good h w x)).0;
    finishes = (restart_finishes m law h w (good h w x)).1;
  }
    where
      err_same : {A : Type 0} {a b : Refusal} → ◌≡◌ {A = Result A Refusal} (Err a) (Err b) → a ≡ b
      err_same e = cc

  -- Restarts

  pub blank_begins : BlankBegins m
  blank_begins n capacity a b = begins m law n capacity a b

  pub checkpoints_agree : CheckpointsAgree m
  checkpoints_agree h w x = agrees m law h w (good h w x)

  pub again_nothing : AgainNothing m
  again_nothing h w v u a x = again m law h w v u a (good h w x)

  pub cut_or_not : CutOrNot m
  cut_or_not h w v x u r = cut_same m law h w v x u (good h w r)
