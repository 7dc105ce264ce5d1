-- What a summary tells of a log. Assumes nothing.
use Rattle.std.specs.Prelude.{◌≡◌, ℕ, ◌+◌, ◌-◌, ◌^◌, ◌<◌, min, Bool, false, ◌||◌, List, [], ◌∷◌, map, length, is_some, Some, None, Ok, Err, Option, Result, ◌==◌, ⊤}
use Rattle.std.specs.BTreeMap.{BTreeMap}
use Rattle.std.specs.BTreeMap.{IsOrdered, get}
use Rattle.std.specs.BTreeSet as sets
use Rattle.std.specs.Option.{unwrap_or, option_map}
use Rattle.format.specs.declared.slot.Slot.{Slot}
use Rattle.format.specs.declared.slot.Slot.TheVariants.{Record, Job, Checkpoint}
use Rattle.format.specs.declared.slot.Action.{Action}
use Rattle.format.specs.declared.slot.Action.TheVariants.{Put, TakeBack}
use Rattle.format.specs.declared.slot.JobEvent.{JobEvent}
use Rattle.format.specs.declared.slot.kind.SlotKind.{SlotKind}
use Rattle.format.specs.Slots.{every_kind}
use Rattle.recovery_log.specs.declared.error.NoteError.{NoteError}
use Rattle.recovery_log.specs.declared.error.NoteError.TheVariants.{OutOfMemory, TooManySlots}
use Rattle.recovery_log.specs.declared.jobs.JobSummary.{JobSummary}
use Rattle.recovery_log.specs.declared.making.Draft.{Draft}
use Rattle.recovery_log.specs.declared.summary.Checkpoint as checkpoint
use Rattle.recovery_log.specs.declared.summary.Summary.{Summary}
use Rattle.recovery_log.specs.Log.{Log, opens, commits, ends, is_open, is_committed, is_ended, pending, newest_lrc, how_many_misfits, how_many, Making, making, has_page, has_job, last_checkpoint}
use Rattle.std.specs.Ordering.{nat_cmp}

-- Jobs

abbrev pub nothing : JobSummary
nothing = record { «open» = false; committed = false; ended = false; not_taken_back = 0 }

-- what the log says of the job
abbrev pub job_in : {C : Type 0} → Log C → ℕ → JobSummary
job_in L j = record { «open» = is_open L j; committed = is_committed L j; ended = is_ended L j; not_taken_back = length (pending L j) }

-- an event or a record of the job
abbrev pub is_of : {C : Type 0} → Option (Slot C) → ℕ → Bool
is_of None j = false
is_of (Some (Record r)) j = r.job == j
is_of (Some (Job e k)) j = k == j
is_of (Some (Checkpoint p)) j = false

abbrev pub is_named : {C : Type 0} → Log C → ℕ → Bool
is_named [] j = false
is_named (s ∷ L) j = is_of s j || is_named L j

-- the same one event, or one record, later; four bytes hold no larger count
abbrev pub with_event : JobEvent → JobSummary → JobSummary
with_event e s = record { «open» = opens e; committed = commits e || s.committed; ended = ends e || s.ended; not_taken_back = s.not_taken_back }

abbrev pub counted_by : Action → ℕ → ℕ
counted_by Put n = min (n + 1) (2 ^ 32 - 1)
counted_by TakeBack n = n - 1

abbrev pub with_action : Action → JobSummary → JobSummary
with_action a s = record { «open» = s.«open»; committed = s.committed; ended = s.ended; not_taken_back = counted_by a s.not_taken_back }

module _ where
  abbrev pub job_at : BTreeMap ℕ JobSummary → ℕ → JobSummary
  job_at m j = unwrap_or (get nat_cmp m j) nothing

  pub record TellsJobs {C : Type 0} (m : BTreeMap ℕ JobSummary) (L : Log C) : Type 0 where
    pub ordered : IsOrdered nat_cmp m
    pub each : (j : ℕ) → job_at m j ≡ job_in L j
    pub named : (j : ℕ) → is_some (get nat_cmp m j) ≡ is_named L j

-- Pages and counts

module _ {C : Type 0} where
  pub record TellsPages (m : BTreeMap ℕ ℕ) (L : Log C) : Type 0 where
    pub ordered : IsOrdered nat_cmp m
    pub each : (p : ℕ) → get nat_cmp m p ≡ newest_lrc L p

  -- each kind, in the order of their numbers, with how many slots are of it
  abbrev pub TellsKinds : List (SlotKind × ℕ) → Log C → Type 0
  TellsKinds kinds L = kinds ≡ map (λ k. (k, how_many k L)) every_kind

  -- where what stood before tells of a log that has room for a slot, what stands after tells of the log with this slot on top
  abbrev pub Carries : {X : Type 0} → (X → Log C → Type 0) → Option (Slot C) → X → X → Type 0
  Carries Told slot before after = (L : Log C) → length L < 2 ^ 32 - 1 → Told before L → Told after (slot ∷ L)

-- Checkpoints

-- the draft has the begin, and names the pages and the jobs, of what is in the making
pub record TellsDraft (d : Draft) (m : Making) : Type 0 where
  pub begin : d.begin ≡ m.begin
  pub pages_ordered : sets.IsOrdered nat_cmp d.pages
  pub jobs_ordered : sets.IsOrdered nat_cmp d.jobs
  pub pages : (p : ℕ) → sets.contains nat_cmp d.pages p ≡ has_page p m.pages
  pub jobs : (j : ℕ) → sets.contains nat_cmp d.jobs j ≡ has_job j m.jobs

-- there is a draft exactly where something is in the making
abbrev pub TellsMaking : Option Draft → Option Making → Type 0
TellsMaking None None = ⊤
TellsMaking None (Some m) = ⊥
TellsMaking (Some d) None = ⊥
TellsMaking (Some d) (Some m) = TellsDraft d m

-- the newest complete one
abbrev pub complete : {C : Type 0} → Log C → Option checkpoint.Checkpoint
complete L = option_map (λ b. record { begin = b.begin; end = b.end }) (last_checkpoint L)

-- Summaries

pub record Tells {C : Type 0} (s : Summary) (L : Log C) : Type 0 where
  pub slots : s.slots ≡ length L
  pub jobs : TellsJobs s.jobs L
  pub pages : TellsPages s.pages L
  pub misfits : s.misfits ≡ how_many_misfits L
  pub kinds : TellsKinds s.kinds L
  pub newest : s.checkpoint ≡ complete L
  pub draft : TellsMaking s.making (making L)

-- where memory ran out, the summary may have noted a part of the slot
abbrev pub Noted : {C : Type 0} → Option (Slot C) → Summary → Summary → Result (Unit {0}) NoteError → Type 0
Noted {C} slot before after (Ok _) = (L : Log C) → Tells before L → Tells after (slot ∷ L)
Noted slot before after (Err OutOfMemory) = before.slots < 2 ^ 32 - 1
Noted slot before after (Err TooManySlots) = (before.slots ≡ 2 ^ 32 - 1) × (after ≡ before)
