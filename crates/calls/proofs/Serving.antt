-- A server in service: what may be relied on in its calls, and that each does its plan once its first questions are answered. Assumes nothing.
use Rattle.std.proofs.Common.{◌≡◌, ℕ, zero, suc, ◌<◌, ◌≤◌, true, List, is_some, Ok, Err, Result, sym, refl, ap, subst, ◌∙◌, arith}
use Rattle.std.proofs.lemmas.Bool.{false≢true}
use Rattle.std.proofs.lemmas.Bool.Decides.{nat_tests}
use Rattle.format.specs.declared.page.Page.{Page}
use Rattle.format.specs.Changes.{Meaning}
use Rattle.rules.specs.declared.refusal.Refusal.{Refusal}
use Rattle.rules.specs.Plans.{Does}
use Rattle.rules.specs.Restart.{whole}
use Rattle.rules.specs.Runs.{ServiceCall, Answers, in_service_plan, service_plan}
use Rattle.rules.specs.State.{Devices, Memory, out, analysed, redone, serving, World, Working, is_serving, working, size, sizes_legal}
use Rattle.rules.specs.Tables.{Jobs, Dirty}
use Rattle.promises.specs.AnyDevices.{ReadsOn, InService}
use Rattle.promises.proofs.Decoded.{at_zero}
use Rattle.calls.specs.declared.state.Stage.{Stage}
use Rattle.calls.specs.declared.state.Stage.TheVariants.{Serving}
use Rattle.calls.specs.Memories.{memory_of}
use Rattle.calls.specs.Outcomes.{Powered, Ready, asked}
use Rattle.calls.proofs.Performing.{rest, asked_no, asked_yes, let_in}
use Rattle.calls.proofs.Stages.{opened}

abbrev pub working_of : List Page → Jobs → ℕ → Working
working_of copies jobs first = record { copies = copies; jobs = jobs; first = first }

pub few_slots : (d : Devices) → sizes_legal d ≡ true → (size d ≤ 64) × (d.log.capacity ≤ 4096)
few_slots d h = (grind (arith, nat_tests), grind (arith, nat_tests))

module _ {C : Type 0} (m : Meaning C) where
  pub in_order : (w : World) → Ready m w → InService m w.devices (working w.memory)
  in_order w ready = go w.memory ready
    where
      go : (x : Memory) → Ready m (record { devices = w.devices; memory = x }) → InService m w.devices (working x)
      go out ready = absurd (false≢true ready.2)
      go (analysed f) ready = absurd (false≢true ready.2)
      go (redone s) ready = absurd (false≢true ready.2)
      go (serving s) ready = ready.0

  -- there is no slot 0, so that it is not among those that fit
  from_one : (d : Devices) (first : ℕ) → ReadsOn m d first → 0 < first
  from_one d zero reads = absurd (false≢true (sym (ap is_some (at_zero (whole m d))) ∙ reads.fits 0 (omega arith) (omega arith)))
  from_one d (suc n) reads = omega arith

  -- u is what the first questions left, and that is w
  pub refused_by : (c : ServiceCall) {u w : World} {why : Refusal} (r : Result (Answers c) Refusal) → u ≡ w → is_serving w.memory ≡ true → Powered w.devices
      → Err why ≡ asked (in_service_plan m c u.devices (working u.memory)) → r ≡ Err why → Does m (service_plan m c w) w r u
  refused_by c {u = u} {why = why} r same = subst (λ w. is_serving w.memory ≡ true → Powered w.devices → Err why ≡ asked (in_service_plan m c u.devices (working u.memory)) → r ≡ Err why
      → Does m (service_plan m c w) w r u) same
      (λ stage power nay e. subst (λ r. Does m (service_plan m c u) u r u) (sym e) (let_in m stage power (asked_no m _ (sym nay))))

  -- The state of the code

  module _ (d : Devices) (stage : Stage) (jobs : Jobs) (dirty : Dirty) (copies : List Page) (first : ℕ) where
    -- as its log is read
    pub reads : {u w : World} → record { devices = d; memory = memory_of stage jobs dirty copies first } ≡ u → u ≡ w → Ready m w → (d.log.powered ≡ true) × (0 < first)
    reads view same ready = go (subst (Ready m) (opened d stage jobs dirty copies first view same Serving ready.2) ready)
      where
        go : Ready m (record { devices = d; memory = serving (working_of copies jobs first) }) → (d.log.powered ≡ true) × (0 < first)
        go ready = (ready.1.log, from_one d first ready.0.reads_on)

    module _ (c : ServiceCall) {u w v : World} {r : Result (Answers c) Refusal} (view : record { devices = d; memory = memory_of stage jobs dirty copies first } ≡ u) (same : u ≡ w)
        (now : is_serving w.memory ≡ true) (power : Powered w.devices) where
      pub let_in_service : Does m (in_service_plan m c d (working_of copies jobs first)) (record { devices = d; memory = serving (working_of copies jobs first) }) r v → Does m (service_plan m c w) w r v
      let_in_service x = subst (λ w. Powered w.devices → Does m (service_plan m c w) w r v) (sym (opened d stage jobs dirty copies first view same Serving now)) (λ power. let_in m refl power x) power

      pub served : Ok tt ≡ asked (in_service_plan m c u.devices (working u.memory))
          → Does m (rest (in_service_plan m c d (working_of copies jobs first))) (record { devices = d; memory = serving (working_of copies jobs first) }) r v → Does m (service_plan m c w) w r v
      served yea x = let_in_service (asked_yes m (in_service_plan m c d (working_of copies jobs first))
          (sym (yea ∙ ap (λ w. asked (in_service_plan m c w.devices (working w.memory))) (same ∙ opened d stage jobs dirty copies first view same Serving now))) x)
