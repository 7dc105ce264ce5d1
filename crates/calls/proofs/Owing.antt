-- What the log owes, by counts of the changes that are not taken back. Assumes nothing.
use Rattle.std.proofs.Common.{◌≡◌, ℕ, suc, ◌<◌, ◌≤◌, ◌+◌, ◌-◌, ◌^◌, Bool, true, false, cond, eqb, List, [], ◌∷◌, length, take, replicate, sum, slice_index, Some, None, sym, refl, ap, subst, ◌∙◌, arith}
use Rattle.std.proofs.lemmas.List.{get_or-replicate}
use Rattle.std.proofs.lemmas.List.Sums.{sum_by-cons}
use Rattle.std.proofs.Math.Seq.{take-nil}
use Rattle.format.specs.Changes.{Meaning}
use Rattle.format.specs.declared.page.Page.{Page}
use Rattle.format.specs.declared.slot.Slot.{Slot}
use Rattle.format.specs.declared.slot.Slot.TheVariants.{Record, Job, Checkpoint}
use Rattle.format.specs.declared.slot.PageRecord.{PageRecord}
use Rattle.format.specs.declared.slot.Action.{Action}
use Rattle.format.specs.declared.slot.Action.TheVariants.{Put, TakeBack}
use Rattle.recovery_log.specs.Log.{Log, Numbered, new_number, pending, pending_by}
use Rattle.rules.specs.Service.{log_read}
use Rattle.rules.specs.State.{Devices, World, working}
use Rattle.rules.specs.Tables.{Jobs, Dirty, owed}
use Rattle.calls.specs.declared.state.Stage.{Stage}
use Rattle.calls.specs.declared.state.Stage.TheVariants.{Serving}
use Rattle.calls.specs.Memories.{memory_of}
use Rattle.calls.specs.Outcomes.{Ready}
use Rattle.calls.specs.Readers.{counted, job_at, Counts, slots_for}
use Rattle.calls.proofs.Serving.{few_slots, in_order}
use Rattle.calls.proofs.Stages.{opened}

pub none_counted : (C : Type 0) (jobs : Jobs) → length jobs ≤ 8 → Counts {C = C} [] jobs (replicate 8 0)
none_counted C jobs few i within = get_or-replicate 8 i 0 0 (omega arith)

module _ {C : Type 0} where
  -- a record more

  counted_is : (a : Action) (x : Numbered C) (xs : List (Numbered C)) → length xs < 2 ^ 32 - 1 → counted a (length xs) ≡ length (pending_by a x xs)
  counted_is Put x xs lt = omega arith
  counted_is TakeBack x [] lt = refl
  counted_is TakeBack x (y ∷ ys) lt = refl

  pending_by_few : (a : Action) (x : Numbered C) (xs : List (Numbered C)) → length (pending_by a x xs) ≤ suc (length xs)
  pending_by_few Put x xs = omega arith
  pending_by_few TakeBack x [] = omega arith
  pending_by_few TakeBack x (y ∷ ys) = omega arith

  pending_few : (L : Log C) (j : ℕ) → length (pending L j) ≤ length L
  pending_few [] j = omega arith
  pending_few (None ∷ L) j = let k = pending_few L j in omega arith
  pending_few (Some (Record r) ∷ L) j = go (eqb r.job j) (pending_few L j)
    where
      x : Numbered C
      x = record { number = new_number L; record' = r }

      go : (b : Bool) → length (pending L j) ≤ length L → length (cond b (pending_by r.action x (pending L j)) (pending L j)) ≤ suc (length L)
      go true k = let f = pending_by_few r.action x (pending L j) in omega arith
      go false k = omega arith
  pending_few (Some (Job e k) ∷ L) j = let k = pending_few L j in omega arith
  pending_few (Some (Checkpoint p) ∷ L) j = let k = pending_few L j in omega arith

  pub record_counted : (L : Log C) (s : Slot C) (r : PageRecord C) (jobs : Jobs) (before after : List ℕ) → s ≡ Record r → new_number L < 2 ^ 32
      → ((i : ℕ) → i < length jobs → slice_index after i ≡ cond (eqb r.job (job_at jobs i)) (counted r.action (slice_index before i)) (slice_index before i))
      → Counts L jobs before → Counts (Some s ∷ L) jobs after
  record_counted L s r jobs before after is lt step counts = subst (λ s. Counts (Some s ∷ L) jobs after) (sym is)
      (λ i within. step i within ∙ here i (eqb r.job (job_at jobs i)) (counts i within))
    where
      x : Numbered C
      x = record { number = new_number L; record' = r }

      here : (i : ℕ) (b : Bool) → slice_index before i ≡ length (pending L (job_at jobs i))
          → cond b (counted r.action (slice_index before i)) (slice_index before i) ≡ length (cond b (pending_by r.action x (pending L (job_at jobs i))) (pending L (job_at jobs i)))
      here i true e = ap (counted r.action) e ∙ counted_is r.action x (pending L (job_at jobs i)) (let k = pending_few L (job_at jobs i) in omega arith)
      here i false e = e

  -- the sum
  owed_is : (L : Log C) (jobs : Jobs) (counts : List ℕ) → Counts L jobs counts → slots_for jobs counts ≡ owed L jobs
  owed_is L [] counts h = refl
  owed_is L (x ∷ xs) [] h =
      let here : 0 ≡ length (pending L x.job) = h 0 (omega arith) in
      let there : length xs + 0 ≡ owed L xs = let k = owed_is L xs [] (λ i lt. h (suc i) (omega arith)) in rw take-nil at k in
      omega arith
  owed_is L (x ∷ xs) (n ∷ ns) h =
      let here : n ≡ length (pending L x.job) = h 0 (omega arith) in
      let there = owed_is L xs ns (λ i lt. h (suc i) (omega arith)) in
      let apart : sum (take (suc (length xs)) (n ∷ ns)) ≡ n + sum (take (length xs) ns) = sum_by-cons (λ x. x) n (take (length xs) ns) in
      omega arith

module _ {C : Type 0} (m : Meaning C) where
  -- the counts of the jobs of the opened state
  pub owes : (d : Devices) (stage : Stage) (jobs : Jobs) (dirty : Dirty) (copies : List Page) (first : ℕ) {w : World} (listed : Jobs) (counts : List ℕ)
      → record { devices = d; memory = memory_of stage jobs dirty copies first } ≡ w → Ready m w → listed ≡ jobs → Counts (log_read m w.devices (working w.memory)) listed counts
      → slots_for listed counts ≡ owed (log_read m w.devices (working w.memory)) (working w.memory).jobs
  owes d stage jobs dirty copies first {w} listed counts view ready same said =
      owed_is (log_read m w.devices (working w.memory)) listed counts said
      ∙ ap (owed (log_read m w.devices (working w.memory))) (same ∙ sym (ap (λ w. (working w.memory).jobs) (opened d stage jobs dirty copies first view refl Serving ready.2)))

  -- so the sum fits
  pub owed_few : (w : World) → Ready m w → owed (log_read m w.devices (working w.memory)) (working w.memory).jobs ≤ 4096
  owed_few w ready = let so = in_order m w ready in let room = so.room in let most = (few_slots w.devices so.reads_on.sizes).1 in omega arith
