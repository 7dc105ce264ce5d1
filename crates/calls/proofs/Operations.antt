-- Operations done one after the other, in their order: what a call comes to where they are all done, and where one fails. Assumes nothing.
use Rattle.std.proofs.Common.{◌≡◌, List, [], ◌∷◌, ◌++◌, Ok, Err, Result, append-nil, sym, subst}
use Rattle.format.specs.Changes.{Meaning}
use Rattle.rules.specs.declared.refusal.Refusal.{Refusal}
use Rattle.rules.specs.Plans.{Op, Did, Failed, Performed, done, next, failed}
use Rattle.rules.specs.State.{Devices, Memory, World, out}
use Rattle.promises.proofs.AnyDevicesScans.{clash}
use Rattle.calls.specs.Outcomes.{Outcome}
use Rattle.calls.proofs.Checks.{same_refusal}

module _ {C : Type 0} (m : Meaning C) where
  -- these operations were all done, from the first devices to the second
  pub data AllDone : List (Op C) → Devices → Devices → Type 0 where
    nothing : {d : Devices} → AllDone [] d d
    then_all : {op : Op C} {ops : List (Op C)} {d e f : Devices} → Did m op d e → AllDone ops e f → AllDone (op ∷ ops) d f

  -- one more at the end
  pub one_more : {op : Op C} {ops : List (Op C)} {d e f : Devices} → AllDone ops d e → Did m op e f → AllDone (ops ++ op ∷ []) d f
  one_more nothing x = then_all x nothing
  one_more (then_all y ys) x = then_all y (one_more ys x)

  -- after them the others
  pub then_performed : {A : Type 0} {answer : Result A Refusal} {after : Memory} {ops others : List (Op C)} {d e : Devices} {r : Result A Refusal} {w : World}
      → AllDone ops d e → Performed m answer after others e r w → Performed m answer after (ops ++ others) d r w
  then_performed nothing y = y
  then_performed (then_all x xs) y = next x (then_performed xs y)

  -- after them one that fails, whatever was to come
  pub then_failed : {A : Type 0} {answer : Result A Refusal} {after : Memory} {op : Op C} {ops : List (Op C)} {d e f : Devices} {why : Refusal} (others : List (Op C))
      → AllDone ops d e → Failed m op e why f → Performed m answer after (ops ++ op ∷ others) d (Err why) (record { devices = f; memory = out })
  then_failed others xs y = then_performed xs (failed y)

  -- they are all
  pub performed_all : {A : Type 0} {answer : Result A Refusal} {after : Memory} {ops : List (Op C)} {d e : Devices}
      → AllDone ops d e → Performed m answer after ops d answer (record { devices = e; memory = after })
  performed_all nothing = done
  performed_all (then_all x xs) = next x (performed_all xs)

  -- Operations that a part of a call does: all of them, or the first that fails ends it

  pub were_done : {ops : List (Op C)} {d : Devices} {r : Result (Unit {0}) Refusal} {w : World} → Performed m (Ok tt) out ops d r w → r ≡ Ok tt → AllDone ops d w.devices
  were_done done e = nothing
  were_done (next x y) e = then_all x (were_done y e)
  were_done (failed x) e = clash _ _ e

  pub failed_before : {A : Type 0} {answer : Result A Refusal} {after : Memory} {ops : List (Op C)} {d : Devices} {r : Result (Unit {0}) Refusal} {w : World} {why : Refusal} (others : List (Op C))
      → Performed m (Ok tt) out ops d r w → r ≡ Err why → Performed m answer after (ops ++ others) d (Err why) w
  failed_before others done e = clash _ _ (sym e)
  failed_before others (next x y) e = next x (failed_before others y e)
  failed_before {answer = answer} {after = after} {ops = ops} {d = d} {w = w} others (failed x) e =
      subst (λ f. Performed m answer after (ops ++ others) d (Err f) w) (same_refusal e) (failed x)

  -- where nothing was to come
  pub failed_last : {A : Type 0} {answer : Result A Refusal} {after : Memory} {ops : List (Op C)} {d : Devices} {r : Result (Unit {0}) Refusal} {w : World} {why : Refusal}
      → Performed m (Ok tt) out ops d r w → r ≡ Err why → Performed m answer after ops d (Err why) w
  failed_last {answer = answer} {after = after} {ops = ops} {d = d} {w = w} {why = why} x e =
      subst (λ ops. Performed m answer after ops d (Err why) w) (append-nil ops) (failed_before [] x e)

  pub performed_one : {op : Op C} {d e : Devices} (r : Result (Unit {0}) Refusal) → Outcome m op d r e → Performed m (Ok tt) out (op ∷ []) d r (record { devices = e; memory = out })
  performed_one (Ok u) x = next x done
  performed_one (Err why) x = failed x
