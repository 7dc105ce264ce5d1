-- What is told of a job, one record later. Assumes nothing.
use Rattle.std.proofs.Common.{◌≡◌, ℕ, suc, ◌<◌, ◌≤◌, List, [], ◌∷◌, length, Some, None, arith}
use Rattle.std.proofs.lemmas.Grind.{common_steps}
use Rattle.format.specs.declared.slot.Slot.TheVariants.{Record, Job, Checkpoint}
use Rattle.format.specs.declared.slot.PageRecord.{PageRecord}
use Rattle.format.specs.declared.slot.Action.{Action}
use Rattle.recovery_log.specs.Log.{Log, Numbered, pending, pending_by}
use Rattle.recovery_log.specs.Summary.{job_in, with_action, counted_by}

module _ {C : Type 0} where
  by_action : (a : Action) (x : Numbered C) (xs : List (Numbered C)) → length xs < 4294967295 → counted_by a (length xs) ≡ length (pending_by a x xs)
  by_action a x xs few = grind arith

  by_action_most : (a : Action) (x : Numbered C) (xs : List (Numbered C)) → length (pending_by a x xs) ≤ suc (length xs)
  by_action_most a x xs = grind arith

  -- no more is pending than was noted
  pending_most : (L : Log C) (j : ℕ) → length (pending L j) ≤ length L
  pending_most [] j = omega arith
  pending_most (None ∷ L) j = omega (arith, pending_most L j)
  pending_most (Some (Record r) ∷ L) j = grind (arith, pending_most L j, by_action_most)
  pending_most (Some (Job e k) ∷ L) j = omega (arith, pending_most L j)
  pending_most (Some (Checkpoint p) ∷ L) j = omega (arith, pending_most L j)

  pub by_record : (L : Log C) (r : PageRecord C) → length L < 4294967295 → with_action r.action (job_in L r.job) ≡ job_in (Some (Record r) ∷ L) r.job
  by_record L r few = grind (arith, common_steps, pending_most L r.job, by_action)
