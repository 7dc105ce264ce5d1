-- What reading the log tells: a slot, the log up to a number, and what each reader knows of the slots that it was shown. Assumes nothing.
use Rattle.std.specs.Prelude.{◌≡◌, ℕ, suc, pred, ◌+◌, ◌-◌, ◌^◌, ◌<◌, ◌==◌, min, max, cond, List, [], ◌∷◌, length, take, sum, Some, None, Option, slice_index, slice_index_or}
use Rattle.std.specs.Result.{result_ok}
use Rattle.format.specs.declared.slot.Slot.{Slot}
use Rattle.format.specs.declared.slot.Slot.TheVariants.{Record, Job, Checkpoint}
use Rattle.format.specs.declared.slot.Action.{Action}
use Rattle.format.specs.declared.slot.Action.TheVariants.{Put, TakeBack}
use Rattle.format.specs.Changes.{Meaning}
use Rattle.format.specs.Slots.{read_slot}
use Rattle.recovery_log.specs.Log.{Log, pending}
use Rattle.rules.specs.Reading.{known}
use Rattle.rules.specs.State.{Devices, size, slots}
use Rattle.rules.specs.Tables.{Jobs}

-- slot n of the log, nothing where its bytes do not fit
abbrev pub slot_of : {C : Type 0} → Meaning C → Devices → ℕ → Option (Slot C)
slot_of m d n = result_ok (read_slot m (size d) n (slice_index_or (slots d) (pred n) []))

-- the log up to slot `last`, as it is read from slot `first` on
abbrev pub read_up_to : {C : Type 0} → Meaning C → Devices → ℕ → ℕ → Log C
read_up_to m d first last = known m (size d) first (take last (slots d))

-- The highest LRC among the records of the page; 0 if there is none. A copy with a lower LRC lacks one of them.
abbrev pub highest_lrc : {C : Type 0} → ℕ → Log C → ℕ
highest_lrc p [] = 0
highest_lrc p (None ∷ L) = highest_lrc p L
highest_lrc p (Some (Record r) ∷ L) = cond (r.page == p) (max r.lrc (highest_lrc p L)) (highest_lrc p L)
highest_lrc p (Some (Job e j) ∷ L) = highest_lrc p L
highest_lrc p (Some (Checkpoint c) ∷ L) = highest_lrc p L

-- The changes of jobs that are not taken back

-- the job that is listed at a place
abbrev pub job_at : Jobs → ℕ → ℕ
job_at jobs i = (slice_index_or jobs i (record { job = 0; next = 0; holds = [] })).job

-- how many changes are left after one more, up to the largest number of four bytes, or after one was taken back
abbrev pub counted : Action → ℕ → ℕ
counted Put n = min (suc n) (2 ^ 32 - 1)
counted TakeBack n = pred n

-- for each listed job, how many of its changes are not taken back
abbrev pub Counts : {C : Type 0} → Log C → Jobs → List ℕ → Type 0
Counts L jobs counts = (i : ℕ) → i < length jobs → slice_index counts i ≡ length (pending L (job_at jobs i))

-- a slot for the end of each listed job, and one for each of its changes
abbrev pub slots_for : Jobs → List ℕ → ℕ
slots_for jobs counts = length jobs + sum (take (length jobs) counts)
