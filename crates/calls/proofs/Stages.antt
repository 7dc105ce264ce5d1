-- The stage in the code and in the memory. Assumes nothing.
use denote.Enum.Bare.{sameb, same_true}
use Rattle.std.proofs.Common.{◌≡◌, ℕ, Bool, true, false, not, List, Ok, Err, Result, IfErr, refl, sym, ap, ◌∙◌}
use Rattle.format.specs.declared.page.Page.{Page}
use Rattle.rules.specs.declared.refusal.Refusal.{Refusal}
use Rattle.rules.specs.State.{Devices, World, out}
use Rattle.rules.specs.Tables.{Jobs, Dirty}
use Rattle.calls.specs.contracts.state.Stage.{the_type}
use Rattle.calls.specs.declared.state.Stage.{Stage}
use Rattle.calls.specs.declared.state.Stage.TheVariants.{OutOfService, Analysed, Redone, Serving}
use Rattle.calls.specs.Memories.{memory_of, is_at}
use Rattle.calls.specs.Outcomes.{TurnedAway, no_power, check_power}

pub at_stage : (s t : Stage) (jobs : Jobs) (dirty : Dirty) (copies : List Page) (first : ℕ) → is_at t (memory_of s jobs dirty copies first) ≡ sameb the_type s t
at_stage OutOfService OutOfService jobs dirty copies first = refl
at_stage OutOfService Analysed jobs dirty copies first = refl
at_stage OutOfService Redone jobs dirty copies first = refl
at_stage OutOfService Serving jobs dirty copies first = refl
at_stage Analysed OutOfService jobs dirty copies first = refl
at_stage Analysed Analysed jobs dirty copies first = refl
at_stage Analysed Redone jobs dirty copies first = refl
at_stage Analysed Serving jobs dirty copies first = refl
at_stage Redone OutOfService jobs dirty copies first = refl
at_stage Redone Analysed jobs dirty copies first = refl
at_stage Redone Redone jobs dirty copies first = refl
at_stage Redone Serving jobs dirty copies first = refl
at_stage Serving OutOfService jobs dirty copies first = refl
at_stage Serving Analysed jobs dirty copies first = refl
at_stage Serving Redone jobs dirty copies first = refl
at_stage Serving Serving jobs dirty copies first = refl

pub other_stage : (b c : Bool) → true ≡ not b → c ≡ b → c ≡ false
other_stage true c e s = s ∙ e
other_stage false c e s = s

pub this_stage : (b c : Bool) → false ≡ not b → c ≡ b → c ≡ true
this_stage true c e s = s
this_stage false c e s = s ∙ e

pub without_power : (b : Bool) (otherwise : Refusal) (w : World) (r : Result (Unit {0}) Refusal) → b ≡ true → r ≡ check_power w.devices
    → IfErr r (λ why. TurnedAway b otherwise w why (record { devices = w.devices; memory = out }))
without_power b otherwise w (Ok u) t e = tt
without_power b otherwise w (Err why) t e = no_power t (sym e)

-- The state of the code, seen as a memory by its stage

module _ (d : Devices) (stage : Stage) (jobs : Jobs) (dirty : Dirty) (copies : List Page) (first : ℕ) {u w : World}
    (view : record { devices = d; memory = memory_of stage jobs dirty copies first } ≡ u) (same : u ≡ w) where
  -- by the first question of a call it is at the stage that this asks for
  stage_is : (t : Stage) → is_at t w.memory ≡ true → stage ≡ t
  stage_is t now = same_true the_type tt stage t (sym (at_stage stage t jobs dirty copies first) ∙ (ap (λ w. is_at t w.memory) (view ∙ same) ∙ now))

  pub opened : (t : Stage) → is_at t w.memory ≡ true → w ≡ record { devices = d; memory = memory_of t jobs dirty copies first }
  opened t now = sym (view ∙ same) ∙ ap (λ stage. record { devices = d; memory = memory_of stage jobs dirty copies first }) (stage_is t now)

  -- and stays there where the code leaves its stage alone
  pub stays_at : (t : Stage) → is_at t w.memory ≡ true → (js : Jobs) (ps : List Page) → memory_of stage js dirty ps first ≡ memory_of t js dirty ps first
  stays_at t now js ps = ap (λ stage. memory_of stage js dirty ps first) (stage_is t now)
