-- Taking changes back on the devices, in the words of the plans of abort and undo: they list the slots that they append with the newest first. Assumes nothing.
use Rattle.std.specs.Prelude.{◌≡◌, ℕ, suc, ◌+◌, Bool, cond, List, [], ◌∷◌, length, Some, None, Ok, Err, Option, Result, ◌==◌}
use Rattle.format.specs.declared.page.Page.{Page}
use Rattle.format.specs.declared.slot.Slot.{Slot}
use Rattle.format.specs.Changes.{Meaning}
use Rattle.recovery_log.specs.Log.{Log}
use Rattle.rules.specs.declared.refusal.Refusal.{Refusal}
use Rattle.rules.specs.declared.refusal.Refusal.TheVariants.{LogFull}
use Rattle.rules.specs.declared.table.JobEntry.{JobEntry}
use Rattle.rules.specs.Plans.{append, Did, Failed}
use Rattle.rules.specs.Playing.{played, of_page}
use Rattle.rules.specs.Reading.{known, at}
use Rattle.rules.specs.Restart.{Undoing, Undone, whole, goes_on, gives_up, has_slot, end_job, undo_change}
use Rattle.rules.specs.Service.{Work, Stopped, change_of, all_back, at_held}
use Rattle.rules.specs.State.{Devices, size, slots, log_length}
use Rattle.rules.specs.Tables.{Jobs}

-- these slots are the first of those to be appended
pub data FirstOf {C : Type 0} (ts : List (Slot C)) : List (Slot C) → Type 0 where
  all : FirstOf ts ts
  more : {s : Slot C} {ss : List (Slot C)} → FirstOf ts ss → FirstOf ts (s ∷ ss)

module _ {C : Type 0} (m : Meaning C) where
  -- these slots were all appended
  pub data Appended : List (Slot C) → Devices → Devices → Type 0 where
    nothing : {d : Devices} → Appended [] d d
    then_one : {s : Slot C} {ss : List (Slot C)} {d e f : Devices} → Appended ss d e → Did m (append s) e f → Appended (s ∷ ss) d f

  -- Of slots that a plan appends, and why it stops then, if it does: it stops so, or one of the appends fails
  pub data BreaksOff (ss : List (Slot C)) (stop : Option Refusal) (d : Devices) (why : Refusal) (e : Devices) : Type 0 where
    stops : stop ≡ Some why → Appended ss d e → BreaksOff ss stop d why e
    fails : {s : Slot C} {ts : List (Slot C)} {f : Devices} → FirstOf (s ∷ ts) ss → Appended ts d f → Failed m (append s) f why e → BreaksOff ss stop d why e

  -- they are all appended and it does not stop, or it breaks off
  abbrev pub OutcomeOfAppends : List (Slot C) → Option Refusal → Devices → Result (Unit {0}) Refusal → Devices → Type 0
  OutcomeOfAppends ss stop d (Ok u) e = (stop ≡ None) × Appended ss d e
  OutcomeOfAppends ss stop d (Err why) e = BreaksOff ss stop d why e

  -- the copies of the held pages, given the records of the log that they lack
  abbrev pub brought_up : List Bool → Log C → List Page → List Page
  brought_up holds L copies = at_held (λ p c. played m (of_page p) L c) holds copies

  -- what taking the changes of a job back comes to, in the words of the plan
  abbrev pub job_taken_back : Devices → ℕ → ℕ → ℕ → List Page → Stopped C
  job_taken_back d j newest first copies = all_back m newest j newest (record { log = known m (size d) first (slots d); copies = copies; appended = [] })

  -- What is done of a plan that takes changes back: the devices were d at first, with the log L, and are e
  pub record WorkDone (L : Log C) (d : Devices) (k : Work C) (e : Devices) (copies : List Page) : Type 0 where
    pub appended : Appended k.appended d e
    -- no slot that was appended is a change
    pub changes : (j n : ℕ) → change_of j (at k.log n) ≡ change_of j (at L n)
    pub long : length k.log ≡ log_length e
    pub copies_are : k.copies ≡ copies

  -- What is done of undo: each slot that it appends is a compensation or an end
  pub record UndoingDone (d : Devices) (u : Undoing C) (e : Devices) (jobs : Jobs) (copies : List Page) (compensations : ℕ) : Type 0 where
    pub work_done : WorkDone (whole m d) d u.work e copies
    pub jobs_are : u.jobs ≡ jobs
    pub counted : u.compensations ≡ compensations
    pub all_counted : log_length d + (compensations + u.ends) ≡ log_length e

  -- a part of undo breaks off, in the words of its plan
  abbrev pub UndoBreaksOff : Devices → Undone C → Refusal → Devices → Type 0
  UndoBreaksOff d t why e = BreaksOff t.state.work.appended t.why d why e

  -- what a part of undo comes to
  abbrev pub OutcomeOfUndo : {A : Type 0} → Devices → Undone C → Result A Refusal → Devices → Jobs → List Page → ℕ → Type 0
  OutcomeOfUndo d t (Ok x) e jobs copies compensations = (t.why ≡ None) × UndoingDone d t.state e jobs copies compensations
  OutcomeOfUndo d t (Err why) e jobs copies compensations = UndoBreaksOff d t why e

  -- a job with nothing to take back is ended
  abbrev pub end_if_done : ℕ → ℕ → ℕ → Undoing C → Undone C
  end_if_done capacity next j u = cond (next == 0) (end_job m capacity j u) (goes_on m u)

  -- one turn of undo, for the job of the entry
  abbrev pub turn : ℕ → JobEntry → Undoing C → Undone C
  turn capacity e u = cond (has_slot m capacity u) (undo_change m capacity e u (change_of e.job (at u.work.log e.next))) (gives_up m LogFull u)

  -- What a part of undo makes of devices and table, whatever was done before: one that only ends jobs, and a turn

  abbrev pub EndsJobs : (ℕ → Undoing C → Undone C) → Devices → Jobs → Result (Unit {0}) Refusal → Devices → Jobs → Type 0
  EndsJobs part before jobs r after left = (d : Devices) (u : Undoing C) (copies : List Page) (c : ℕ) → UndoingDone d u before jobs copies c → OutcomeOfUndo d (part d.log.capacity u) r after left copies c

  abbrev pub TakesTurn : JobEntry → ℕ → Devices → Jobs → List Page → Result (Unit {0}) Refusal → Devices → Jobs → List Page → Type 0
  TakesTurn x last before jobs copies r after left now = (d : Devices) (u : Undoing C) (c : ℕ) → last ≡ log_length d → UndoingDone d u before jobs copies c
      → OutcomeOfUndo d (turn d.log.capacity x u) r after left now (suc c)
