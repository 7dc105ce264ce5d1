-- What parts of a call come to, in the words of its plan. Assumes nothing.
use Rattle.std.specs.Prelude.{◌≡◌, Bool, true, false, cond, Ok, Err, Result}
use Rattle.format.specs.Changes.{Meaning}
use Rattle.rules.specs.declared.refusal.Refusal.{Refusal}
use Rattle.rules.specs.declared.refusal.Refusal.TheVariants.{PowerLost}
use Rattle.rules.specs.declared.refusal.Device.TheVariants as device
use Rattle.rules.specs.Plans.{Op, Plan, asks, insists, powers_on, performs, Did, Failed}
use Rattle.rules.specs.State.{Devices, World, out, is_serving}
use Rattle.promises.specs.AnyDevices.{InOrder}

-- an operation is done or fails
abbrev pub Outcome : {C : Type 0} → Meaning C → Op C → Devices → Result (Unit {0}) Refusal → Devices → Type 0
Outcome m op d (Ok u) e = Did m op d e
Outcome m op d (Err why) e = Failed m op d why e

-- both devices have power
abbrev pub check_power : Devices → Result (Unit {0}) Refusal
check_power d = cond d.pages.powered (cond d.log.powered (Ok tt) (Err (PowerLost device.Log 0))) (Err (PowerLost device.Pages 0))

-- what a question comes to that gives something where it is answered yes
abbrev pub answer : {A : Type 0} → Result A Refusal → Result (Unit {0}) Refusal
answer (Ok a) = Ok tt
answer (Err why) = Err why

-- the first question of a plan that is answered no, up to where the plan does something else than ask
abbrev pub asked : {C A : Type 0} → Plan C A → Result (Unit {0}) Refusal
asked (asks b why p) = cond b (asked p) (Err why)
asked (insists b why p) = Ok tt
asked (powers_on f) = Ok tt
asked (performs ops answer after) = Ok tt

pub record Powered (d : Devices) : Type 0 where
  pub pages : d.pages.powered ≡ true
  pub log : d.log.powered ≡ true

-- the first questions of a call refuse it: the one about its stage, which alters nothing, or that about power, which takes the server out of service
pub data TurnedAway (at_stage : Bool) (otherwise : Refusal) (w : World) : Refusal → World → Type 0 where
  wrong_stage : at_stage ≡ false → TurnedAway at_stage otherwise w otherwise w
  no_power : {why : Refusal} → at_stage ≡ true → check_power w.devices ≡ Err why → TurnedAway at_stage otherwise w why (record { devices = w.devices; memory = out })

-- what a call in service may rely on once its first questions are answered yes
abbrev pub Ready : {C : Type 0} → Meaning C → World → Type 0
Ready m w = InOrder m w.devices w.memory × Powered w.devices × (is_serving w.memory ≡ true)
