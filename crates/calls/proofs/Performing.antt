-- A call that was turned away, refused by a question, or went on to its operations, does its plan. Assumes nothing.
use Rattle.std.proofs.Common.{◌≡◌, Bool, true, false, List, Ok, Err, Result, sym, refl, subst}
use Rattle.format.specs.Changes.{Meaning}
use Rattle.rules.specs.declared.refusal.Refusal.{Refusal}
use Rattle.rules.specs.declared.refusal.Refusal.TheVariants.{PowerLost}
use Rattle.rules.specs.declared.refusal.Device.TheVariants as device
use Rattle.rules.specs.Plans.{Op, Plan, asks, insists, powers_on, performs, Performed, Does, refused, granted, stopped, passed, performed}
use Rattle.rules.specs.Service.{ready}
use Rattle.rules.specs.State.{Memory, out, World}
use Rattle.promises.proofs.AnyDevicesScans.{clash}
use Rattle.calls.specs.Outcomes.{Powered, TurnedAway, wrong_stage, no_power, check_power, asked}
use Rattle.calls.proofs.Checks.{same_refusal}

-- what a plan does once its questions are answered
abbrev pub rest : {C A : Type 0} → Plan C A → Plan C A
rest (asks b why p) = rest p
rest (insists b why p) = insists b why p
rest (powers_on f) = powers_on f
rest (performs ops answer after) = performs ops answer after

module _ {C : Type 0} (m : Meaning C) where
  pub asked_no : {A : Type 0} (p : Plan C A) {w : World} {why : Refusal} → asked p ≡ Err why → Does m p w (Err why) w
  asked_no (asks true because p) e = granted refl (asked_no p e)
  asked_no (asks false because p) {w = w} {why = why} e = subst (λ x. Does m (asks false because p) w (Err x) w) (same_refusal e) (refused refl)
  asked_no (insists b because p) e = clash _ _ (sym e)
  asked_no (powers_on f) e = clash _ _ (sym e)
  asked_no (performs ops answer after) e = clash _ _ (sym e)

  pub asked_yes : {A : Type 0} (p : Plan C A) {w v : World} {r : Result A Refusal} → asked p ≡ Ok tt → Does m (rest p) w r v → Does m p w r v
  asked_yes (asks true because p) e x = granted refl (asked_yes p e x)
  asked_yes (asks false because p) e x = clash _ _ e
  asked_yes (insists b because p) e x = x
  asked_yes (powers_on f) e x = x
  asked_yes (performs ops answer after) e x = x

  -- the first questions, of a call in service or of a pass

  pub let_in : {A : Type 0} {b : Bool} {otherwise : Refusal} {p : Plan C A} {w v : World} {r : Result A Refusal} → b ≡ true → Powered w.devices → Does m p w r v
      → Does m (asks b otherwise (ready w.devices p)) w r v
  let_in stage power x = granted stage (passed power.pages (passed power.log x))

  dark : {A : Type 0} (a b : Bool) (p : Plan C A) (w : World) (why : Refusal) → w.devices.pages.powered ≡ a → w.devices.log.powered ≡ b → check_power w.devices ≡ Err why
      → Does m (ready w.devices p) w (Err why) (record { devices = w.devices; memory = out })
  dark true true p w why e q z = clash _ _ (sym (rw (e, q) at z))
  dark true false p w why e q z = let k : ◌≡◌ {A = Result (Unit {0}) Refusal} (Err (PowerLost device.Log 0)) (Err why) = rw (e, q) at z in
      subst (λ x. Does m (ready w.devices p) w (Err x) (record { devices = w.devices; memory = out })) (same_refusal k) (passed e (stopped q))
  dark false b p w why e q z = let k : ◌≡◌ {A = Result (Unit {0}) Refusal} (Err (PowerLost device.Pages 0)) (Err why) = rw e at z in
      subst (λ x. Does m (ready w.devices p) w (Err x) (record { devices = w.devices; memory = out })) (same_refusal k) (stopped e)

  pub turned_away : {A : Type 0} {b : Bool} {otherwise why : Refusal} {p : Plan C A} {w v : World} (r : Result A Refusal) → r ≡ Err why → TurnedAway b otherwise w why v
      → Does m (asks b otherwise (ready w.devices p)) w r v
  turned_away {b = b} {otherwise = otherwise} {p = p} {w = w} r e (wrong_stage s) = subst (λ r. Does m (asks b otherwise (ready w.devices p)) w r w) (sym e) (refused s)
  turned_away {b = b} {otherwise = otherwise} {p = p} {w = w} {v = v} r e (no_power {why = why} s z) =
      subst (λ r. Does m (asks b otherwise (ready w.devices p)) w r (record { devices = w.devices; memory = out })) (sym e)
      (granted s (dark w.devices.pages.powered w.devices.log.powered p w why refl refl z))

  pub ends_in : {A : Type 0} {ops : List (Op C)} {answer : Result A Refusal} {after : Memory} {w v : World} {why : Refusal} {r : Result A Refusal} → r ≡ Err why
      → Performed m answer after ops w.devices (Err why) v → Does m (performs ops answer after) w r v
  ends_in {ops = ops} {answer = answer} {after = after} {w = w} {v = v} e x = subst (λ r. Does m (performs ops answer after) w r v) (sym e) (performed x)
