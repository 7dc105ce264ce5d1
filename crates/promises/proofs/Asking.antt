-- Going through the questions of a plan, and through the first questions of a call in service.
use Rattle.std.proofs.Common.{◌≡◌, Bool, true, List, Err, Result, sym, refl, ◌∙◌}
use Rattle.std.proofs.lemmas.Bool.{false≢true}
use Rattle.format.specs.Changes.{Meaning}
use Rattle.rules.specs.declared.refusal.Refusal.{Refusal}
use Rattle.rules.specs.declared.refusal.Refusal.TheVariants.{NotInService}
use Rattle.rules.specs.Ledger.{Ledger}
use Rattle.rules.specs.Plans.{Op, Plan, asks, insists, performs, Performed, Does, refused, granted, stopped, passed, performed}
use Rattle.rules.specs.Service.{ready, in_service}
use Rattle.rules.specs.State.{Devices, Memory, out, analysed, redone, serving, World, Working}
use Rattle.promises.proofs.Invariants.{Kept, Powered, Stage, Good}

module _ {C : Type 0} (m : Meaning C) where
  -- a question: refused with everything as it was, or granted
  pub asked : {A : Type 0} (Q : Result A Refusal → World → Type 0) {b : Bool} {why : Refusal} {p : Plan C A} {w v : World} {r : Result A Refusal}
      → Q (Err why) w → (b ≡ true → Does m p w r v → Q r v) → Does m (asks b why p) w r v → Q r v
  asked Q nay aye (refused e) = nay
  asked Q nay aye (granted e x) = aye e x

  -- a question that is answered yes
  pub answered : {A : Type 0} {b : Bool} {why : Refusal} {p : Plan C A} {w v : World} {r : Result A Refusal} → b ≡ true → Does m (asks b why p) w r v → Does m p w r v
  answered t (refused e) = absurd (false≢true (sym e ∙ t))
  answered t (granted e x) = x

  -- what is insisted on and holds
  pub insisted : {A : Type 0} {b : Bool} {why : Refusal} {p : Plan C A} {w v : World} {r : Result A Refusal} → b ≡ true → Does m (insists b why p) w r v → Does m p w r v
  insisted t (stopped e) = absurd (false≢true (sym e ∙ t))
  insisted t (passed e x) = x

  pub performing : {A : Type 0} {ops : List (Op C)} {answer : Result A Refusal} {after : Memory} {w v : World} {r : Result A Refusal}
      → Does m (performs ops answer after) w r v → Performed m answer after ops w.devices r v
  performing (performed x) = x

  pub readied : {A : Type 0} {d : Devices} {p : Plan C A} {w v : World} {r : Result A Refusal} → Powered m d → Does m (ready d p) w r v → Does m p w r v
  readied power x = insisted power.log (insisted power.pages x)

  -- a call in service is refused in any other stage, and then goes by its inner plan
  pub in_serving : {A : Type 0} (Q : Result A Refusal → World → Type 0) (h : Ledger C) (d : Devices) (memory : Memory) (f : Working → Plan C A) (r : Result A Refusal) (v : World)
      → Good m h (record { devices = d; memory = memory })
      → Q (Err NotInService) (record { devices = d; memory = memory })
      → ((s : Working) → memory ≡ serving s → Kept m h d → Stage m h d (serving s) → Does m (f s) (record { devices = d; memory = memory }) r v → Q r v)
      → Does m (in_service (record { devices = d; memory = memory }) f) (record { devices = d; memory = memory }) r v → Q r v
  in_serving Q h d out f r v g nay aye x = asked Q nay (λ e y. absurd (false≢true e)) x
  in_serving Q h d (analysed a) f r v g nay aye x = asked Q nay (λ e y. absurd (false≢true e)) x
  in_serving Q h d (redone a) f r v g nay aye x = asked Q nay (λ e y. absurd (false≢true e)) x
  in_serving Q h d (serving s) f r v g nay aye x = asked Q nay (λ e y. aye s refl g.kept g.stage (readied g.stage.1.power y)) x
