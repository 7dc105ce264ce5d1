-- What is left of the plan of a record once its questions are answered. Assumes nothing.
use Rattle.std.proofs.Common.{◌≡◌, ℕ, List, [], ◌∷◌, Some, Ok, Result, sym, subst}
use Rattle.format.specs.declared.slot.Slot.TheVariants.{Record}
use Rattle.format.specs.declared.slot.Action.TheVariants.{Put}
use Rattle.format.specs.Changes.{Meaning}
use Rattle.rules.specs.declared.refusal.Refusal.{Refusal}
use Rattle.rules.specs.Plans.{append, performs, Does}
use Rattle.rules.specs.Service.{record_in, recorded, with_jobs}
use Rattle.rules.specs.State.{Devices, Working, World, next_slot}
use Rattle.rules.specs.Tables.{next_of, with_next}
use Rattle.calls.proofs.Performing.{rest}

module _ {C : Type 0} (m : Meaning C) (d : Devices) (s : Working) where
  -- the change that the bytes form is appended, with the job's next as its link
  pub recorded_as : (j p lrc : ℕ) (bytes : List ℕ) (change : C) (link : ℕ) {w v : World} {r : Result (Unit {0}) Refusal} → m.reads bytes ≡ Some change → link ≡ next_of j s.jobs
      → Does m (performs (append (Record (record { action = Put; page = p; job = j; lrc = lrc; link = link; change = change })) ∷ []) (Ok tt) (with_jobs s (with_next j (next_slot d) s.jobs))) w r v
      → Does m (rest (record_in m j p lrc bytes d s)) w r v
  recorded_as j p lrc bytes change link {w} {v} {r} reads is x = subst (λ c. Does m (rest (recorded m j p lrc d s c)) w r v) (sym reads)
      (subst (λ k. Does m (performs (append (Record (record { action = Put; page = p; job = j; lrc = lrc; link = k; change = change })) ∷ []) (Ok tt) (with_jobs s (with_next j (next_slot d) s.jobs))) w r v)
      is x)
