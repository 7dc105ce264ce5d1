-- Every state of a run is good.
use Rattle.std.proofs.Common.{◌≡◌, ℕ, Result, sym, refl, subst, subst₂}
use Rattle.format.specs.Changes.{Meaning, Lawful}
use Rattle.rules.specs.declared.refusal.Refusal.{Refusal}
use Rattle.rules.specs.declared.refusal.Refusal.TheVariants.{NotInService}
use Rattle.rules.specs.Ledger.{Ledger}
use Rattle.rules.specs.Plans.{Does}
use Rattle.rules.specs.Restart.{analysis_plan, redo_plan, undo_plan}
use Rattle.rules.specs.Runs.{Call, analysis, redo, undo, service, ServiceCall, opens, fetches, records, ships, writes_out, commits, aborts, looks, checkpoints, Answers, Answer, in_service_plan, plan_of, denied, told_service, told_analysis, told, Reaches, made, called, remade}
use Rattle.rules.specs.State.{Devices, Memory, serving, World, Working}
use Rattle.promises.proofs.Aborting.{abort_good}
use Rattle.promises.proofs.Asking.{in_serving}
use Rattle.promises.proofs.Checkpointing.{checkpoint_good}
use Rattle.promises.proofs.Committing.{commit_good}
use Rattle.promises.proofs.Fetching.{fetch_good}
use Rattle.promises.proofs.Finishing.{undo_comes}
use Rattle.promises.proofs.Invariants.{Kept, Stage, Good}
use Rattle.promises.proofs.Looking.{look_good}
use Rattle.promises.proofs.Opening.{open_good}
use Rattle.promises.proofs.Powering.{kept_powered_on, kept_left_over, settles, kept_blank}
use Rattle.promises.proofs.Recording.{record_good}
use Rattle.promises.proofs.Restarting.{analysis_comes, redo_comes}
use Rattle.promises.proofs.Shipping.{ship_good}
use Rattle.promises.proofs.WritingOut.{write_out_good}

module _ {C : Type 0} (m : Meaning C) where
  -- the ledger hears nothing in a refusal that is no loss of power
  denied_same : (c : ServiceCall) (h : Ledger C) → denied m c NotInService h ≡ h
  denied_same opens h = refl
  denied_same (fetches j p n) h = refl
  denied_same (records j p l b) h = refl
  denied_same (ships j p b) h = refl
  denied_same (writes_out p) h = refl
  denied_same (commits j) h = refl
  denied_same (aborts j) h = refl
  denied_same (looks p n) h = refl
  denied_same checkpoints h = refl

  analysis_good : (h : Ledger C) (w v : World) (r : Result (ℕ × ℕ × ℕ) Refusal) → Good m h w → Does m (analysis_plan m w) w r v → Good m (told_analysis m r v h) v
  analysis_good h w v r g x =
      let a = analysis_comes m h w v r g (kept_powered_on m h w.devices g.kept) x in
      let s = settles m h w.devices g.kept in
      subst₂ (λ (r : Result (ℕ × ℕ × ℕ) Refusal) (v : World). Good m (told_analysis m r v h) v) (sym a.answer) (sym a.leaves) (record { kept = s.0; stage = (s.1, a.stage) })

  redo_good : (h : Ledger C) (w v : World) (r : Result (ℕ × ℕ) Refusal) → Good m h w → Does m (redo_plan m w) w r v → Good m h v
  redo_good h w v r g x = redo_comes m (λ r v. Good m h v) h w.devices w.memory v r g g
      (λ f e s a. subst (Good m h) (sym a.leaves) (record { kept = g.kept; stage = (s, a.stage) })) x

module _ {C : Type 0} (m : Meaning C) (law : Lawful m) where
  undo_good : (h : Ledger C) (w v : World) (r : Result (ℕ × ℕ) Refusal) → Good m h w → Does m (undo_plan m w) w r v → Good m h v
  undo_good h w v r g x = undo_comes m law (λ r v. Good m h v) h w.devices w.memory v r g g
      (λ why z e n mem k. record { kept = k; stage = subst (Stage m h v.devices) (sym mem) tt })
      (λ y z e d u k s. record { kept = k; stage = s }) x

  -- whatever a call in service comes to
  service_good : (c : ServiceCall) (h : Ledger C) (d : Devices) (s : Working) (r : Result (Answers c) Refusal) (v : World) → Kept m h d → Stage m h d (serving s)
      → Does m (in_service_plan m c d s) (record { devices = d; memory = serving s }) r v → Good m (told_service m c r h) v
  service_good opens h d s r v k t x = open_good m law h d s r v k t x
  service_good (fetches j p n) h d s r v k t x = fetch_good m law h j p n d s r v k t x
  service_good (records j p l b) h d s r v k t x = record_good m law h j p l b d s r v k t x
  service_good (ships j p b) h d s r v k t x = ship_good m law h d s j p b r v k t x
  service_good (writes_out p) h d s r v k t x = write_out_good m law h d s p r v k t x
  service_good (commits j) h d s r v k t x = commit_good m law h j d s r v k t x
  service_good (aborts j) h d s r v k t x = abort_good m law h d s j r v k t x
  service_good (looks p n) h d s r v k t x = look_good m law h p n d s r v k t x
  service_good checkpoints h d s r v k t x = checkpoint_good m law h d s r v k t x

  in_service_good : (c : ServiceCall) (h : Ledger C) (w v : World) (r : Result (Answers c) Refusal) → Good m h w → Does m (plan_of m (service c) w) w r v → Good m (told_service m c r h) v
  in_service_good c h w v r g x = in_serving m (λ r v. Good m (told_service m c r h) v) h w.devices w.memory (in_service_plan m c w.devices) r v g
      (subst (λ (k : Ledger C). Good m k w) (sym (denied_same m c h)) g)
      (λ s e k t y. service_good c h w.devices s r v k t (subst (λ (memory : Memory). Does m (in_service_plan m c w.devices s) (record { devices = w.devices; memory = memory }) r v) e y)) x

  pub call_good : (c : Call) (h : Ledger C) (w v : World) (r : Result (Answer c) Refusal) → Good m h w → Does m (plan_of m c w) w r v → Good m (told m c r v h) v
  call_good analysis h w v r g x = analysis_good m h w v r g x
  call_good redo h w v r g x = redo_good m h w v r g x
  call_good undo h w v r g x = undo_good h w v r g x
  call_good (service c) h w v r g x = in_service_good c h w v r g x

  pub runs_good : (h : Ledger C) (w : World) → Reaches m h w → Good m h w
  runs_good h w (made n capacity a b p q r s) = record { kept = kept_blank m n capacity a b p q r s; stage = tt }
  runs_good h w (called {h = k} {w = u} c r x y) = call_good c k u w r (runs_good k u x) y
  runs_good h w (remade {w = u} cut a b x) = record { kept = kept_left_over m h u.devices cut a b (runs_good h u x).kept; stage = tt }
