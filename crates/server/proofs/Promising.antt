-- A call that does its plan carries a run on, and what every state that calls lead to promises. Assumes nothing.
use Rattle.std.proofs.Common.{◌≡◌, ◌⊎◌, ℕ, Bool, true, List, Ok, Err, Result, IfOk, IfErr, refl, subst, arith}
use Rattle.std.proofs.lemmas.Bool.{eqb-true}
use Rattle.format.specs.Changes.{Meaning, Lawful}
use Rattle.rules.specs.declared.refusal.Refusal.{Refusal}
use Rattle.rules.specs.Ledger.{Ledger, is_in}
use Rattle.rules.specs.Numbers.{number_of}
use Rattle.rules.specs.Plans.{Plan, asks, insists, Does, refused, granted, stopped, passed}
use Rattle.rules.specs.Restart.{whole, analysis_plan, redo_plan, undo_plan}
use Rattle.rules.specs.Runs.{Call, Answer, plan_of, service_plan, fetches, commits, looks, Reaches, Later, called}
use Rattle.rules.specs.State.{World}
use Rattle.promises.specs.Compensations.{AllOnce}
use Rattle.promises.specs.Promises.{Restarted, Unchanged}
use Rattle.promises.specs.AnyDevices.{ReachedFromAny, InOrder}
use Rattle.promises.proofs.AnyDevices.{any_devices}
use Rattle.promises.proofs.Promised.{kept_exactly, compensated_once, commits_stand, losers_undone, again_nothing, never_refused}
use Rattle.server.specs.declared.not_ended.NotEnded.{NotEnded}
use Rattle.server.specs.Answered.{ended}
use Rattle.server.specs.Promised.{Promised, Committed}

module _ {C : Type 0} (m : Meaning C) where
  pub goes_on : (c : Call) {w v : World} {r : Result (Answer c) Refusal} → ReachedFromAny m w → Does m (plan_of m c w) w r v → ReachedFromAny m v
  goes_on c {r = r} g x = ReachedFromAny.called c r g x

  module _ (law : Lawful m) where
    pub in_order : {w : World} → ReachedFromAny m w → InOrder m w.devices w.memory
    in_order {w = w} g = (any_devices m law w g).in_order

    pub promised : (c : Call) {w v : World} {r : Result (Answer c) Refusal} → ReachedFromAny m w → Does m (plan_of m c w) w r v → Promised m c w r v
    promised c {v = v} {r = r} g x = record {
      carried = λ h reached. called c r reached x;
      kept = λ h reached. kept_exactly m law h v reached;
      once = λ h reached. compensated_once m law h v reached;
      orderly = any_devices m law v (goes_on c g x);
    }

  -- An accepted call was granted each of its questions

  accepted : {A : Type 0} {b : Bool} {why : Refusal} {p : Plan C A} {w v : World} {a : A} (r : Result A Refusal) → r ≡ Ok a → Does m (asks b why p) w r v
      → (b ≡ true) × Does m p w (Ok a) v
  accepted r q (refused {why = why} e) = absurd (let z = q in let k : ◌≡◌ {A = ℕ} 0 1 = cc in omega arith)
  accepted {p = p} {w = w} {v = v} r q (granted e x) = (e, subst (λ r. Does m p w r v) q x)

  passed_on : {A : Type 0} {b : Bool} {why : Refusal} {p : Plan C A} {w v : World} {a : A} (r : Result A Refusal) → r ≡ Ok a → Does m (insists b why p) w r v → Does m p w (Ok a) v
  passed_on r q (stopped {why = why} e) = absurd (let z = q in let k : ◌≡◌ {A = ℕ} 0 1 = cc in omega arith)
  passed_on {p = p} {w = w} {v = v} r q (passed e x) = subst (λ r. Does m p w r v) q x

  -- so the buffer of an accepted fetch or look had 256 bytes
  pub fetched : (j p n : ℕ) {w v : World} {b : List ℕ} → Does m (service_plan m (fetches j p n) w) w (Ok b) v → n ≡ 256
  fetched j p n x = eqb-true n 256 (accepted _ refl (accepted _ refl (accepted _ refl (passed_on _ refl (passed_on _ refl (accepted _ refl x).1))).1).1).0

  pub looked : (p n : ℕ) {w v : World} {b : List ℕ} → Does m (service_plan m (looks p n) w) w (Ok b) v → n ≡ 256
  looked p n x = eqb-true n 256 (accepted _ refl (accepted _ refl (passed_on _ refl (passed_on _ refl (accepted _ refl x).1))).1).0

-- What single calls promise, read off their answers
module _ {C : Type 0} (m : Meaning C) (law : Lawful m) (h : Ledger C) (w v : World) (reached : Reaches m h w) where
  pub analysis_accepted : (why : Refusal) → Does m (analysis_plan m w) w (Err why) v → ⊥
  analysis_accepted why x = (never_refused m law h w reached).analysis v (Err why) why x refl

  pub redo_accepted : (why : Refusal) → Does m (redo_plan m w) w (Err why) v → number_of why ≡ 2
  redo_accepted why x = (never_refused m law h w reached).redo v (Err why) why x refl

  pub undo_accepted : (r : Result (ℕ × ℕ) Refusal) → Does m (undo_plan m w) w r v → IfErr r (λ why. (number_of why ≡ 2) ⊎ (number_of why ≡ 17))
  undo_accepted (Ok a) x = tt
  undo_accepted (Err why) x = (never_refused m law h w reached).undo v (Err why) why x refl

  pub undone_once : (r : Result (ℕ × ℕ) Refusal) → Does m (undo_plan m w) w r v → IfOk r (λ a. AllOnce (λ j. is_in j h.kept) (whole m v.devices))
  undone_once (Ok a) x = losers_undone m law h w v a reached x
  undone_once (Err why) x = tt

  pub again : (u : World) (r : Result (ℕ × ℕ) Refusal) → Does m (undo_plan m w) w r v → IfOk r (λ a. Restarted m v u → Unchanged m v u)
  again u (Ok a) x = λ k. again_nothing m law h w v u a reached x k
  again u (Err why) x = tt

  pub stands : (u : World) (j : ℕ) (r : Result ℕ NotEnded) → Does m (service_plan m (commits j) w) w (ended r) v → IfOk r (λ n. Later m v u → Committed m u j n)
  stands u j (Ok n) x = λ l. commits_stand m law h w v u j n reached x l
  stands u j (Err e) x = tt
