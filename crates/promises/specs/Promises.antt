-- What the server promises of every run: each a law over runs, for every kind of change given by its meaning. Assumes nothing.
use Rattle.std.specs.Prelude.{◌≡◌, ℕ, ◌≤◌, Bool, true, false, ◌⊎◌, List, ◌++◌, map, drop, Some, None, Ok, Err, Option, Result, ◌==◌, ◌≢◌}
use Rattle.format.specs.declared.page.Page.{Page}
use Rattle.format.specs.declared.slot.Slot.{Slot}
use Rattle.format.specs.declared.slot.Slot.TheVariants.{Job, Checkpoint}
use Rattle.format.specs.declared.slot.JobEvent.TheVariants.{Commit}
use Rattle.format.specs.declared.slot.CheckpointPart.TheVariants.{Complete}
use Rattle.format.specs.Changes.{Meaning}
use Rattle.recovery_log.specs.Log.{is_committed}
use Rattle.rules.specs.declared.refusal.Refusal.{Refusal}
use Rattle.promises.specs.Compensations.{AllTakeBack, NeverTwice, AllOnce}
use Rattle.rules.specs.Ledger.{Ledger, is_in, content_of}
use Rattle.rules.specs.Numbers.{number_of}
use Rattle.rules.specs.Plans.{Does, powered_on}
use Rattle.rules.specs.Reading.{at, then}
use Rattle.rules.specs.Restart.{whole, found_in, stored_pages, replayed, Undone, undone, analysis_plan, redo_plan, undo_plan}
use Rattle.rules.specs.Runs.{analysis, redo, undo, looks, commits, Answer, service_plan, blank, left_over, Reaches, Later}
use Rattle.rules.specs.Service.{copy_of}
use Rattle.rules.specs.State.{Devices, out, World, working, is_serving}

-- the call was refused for a loss of power
abbrev pub power_lost : {A : Type 0} → Result A Refusal → Bool
power_lost (Ok a) = false
power_lost (Err why) = number_of why == 17

-- what the server holds of a page
abbrev pub copy_in : World → ℕ → Page
copy_in w p = copy_of (working w.memory).copies p

-- where a restart comes to: the copies, and the slots that it appended, the newest first
pub record Outcome (C : Type 0) : Type 0 where
  pub copies : List Page
  pub appended : List (Slot C)

module _ {C : Type 0} where
  abbrev pub outcome_by : List Page → List (Slot C) → Option Refusal → Result (Outcome C) Refusal
  outcome_by copies appended None = Ok (record { copies = copies; appended = appended })
  outcome_by copies appended (Some why) = Err why

  abbrev pub outcome_of : Undone C → Result (Outcome C) Refusal
  outcome_of u = outcome_by u.state.work.copies u.state.work.appended u.why

module _ {C : Type 0} (m : Meaning C) where
  -- the three passes in a row, each accepted
  pub record Restarted (w v : World) : Type 0 where
    pub found : ℕ × ℕ × ℕ
    pub played : ℕ × ℕ
    pub undone : ℕ × ℕ
    pub after_analysis : World
    pub after_redo : World
    pub analysed : Does m (analysis_plan m w) w (Ok found) after_analysis
    pub redone : Does m (redo_plan m after_analysis) after_analysis (Ok played) after_redo
    pub served : Does m (undo_plan m after_redo) after_redo (Ok undone) v

  -- passes in any order with any outcomes, and a server made again in between
  pub data Passes (w : World) : World → Type 0 where
    none : Passes w w
    remade : {u : World} (cut a b : Bool) → Passes w u → Passes w (record { devices = left_over m cut a b u.devices; memory = out })
    analyses : {u v : World} (r : Result (Answer analysis) Refusal) → Passes w u → Does m (analysis_plan m u) u r v → Passes w v
    redoes : {u v : World} (r : Result (Answer redo) Refusal) → Passes w u → Does m (redo_plan m u) u r v → Passes w v
    undoes : {u v : World} (r : Result (Answer undo) Refusal) → Passes w u → Does m (undo_plan m u) u r v → Passes w v

  -- a restart that goes by the checkpoint whose end is slot e, or from slot 1 where e is 0, with the power kept
  abbrev pub restart_by : Devices → ℕ → Result (Outcome C) Refusal
  restart_by d e = then (found_in (whole m d) e) (λ f. then (replayed m d f.dirty (stored_pages m d))
      (λ s. outcome_of (undone m d (record { copies = s.copies; jobs = f.jobs; first = f.first }))))

  -- Over blank devices of a legal size, unless power is lost, the three passes are accepted and the server serves
  pub record Begins (w : World) : Type 0 where
    pub analysed : (v : World) (r : Result (ℕ × ℕ × ℕ) Refusal) → Does m (analysis_plan m w) w r v → r ≡ Ok (1, 0, 0)
    pub redone : (v u : World) (r : Result (ℕ × ℕ) Refusal) → Does m (analysis_plan m w) w (Ok (1, 0, 0)) v → Does m (redo_plan m v) v r u → r ≡ Ok (0, 0)
    pub served : (v u x : World) (r : Result (ℕ × ℕ) Refusal) → Does m (analysis_plan m w) w (Ok (1, 0, 0)) v → Does m (redo_plan m v) v (Ok (0, 0)) u
        → Does m (undo_plan m u) u r x → power_lost r ≡ false → (r ≡ Ok (0, 0)) × (is_serving x.memory ≡ true)

  abbrev pub BlankBegins : Type 0
  BlankBegins = (n capacity : ℕ) (a b : Bool) → 1 ≤ n → n ≤ 64 → 8 ≤ capacity → capacity ≤ 4096 → Begins (record { devices = blank m n capacity a b; memory = out })

  -- The content that an accepted look gives is the page's content in the ledger
  abbrev pub LooksRight : Type 0
  LooksRight = (h : Ledger C) (w v : World) (p n : ℕ) (bytes : List ℕ) → Reaches m h w → Does m (service_plan m (looks p n) w) w (Ok bytes) v
      → drop 4 bytes ≡ content_of m h p

  -- The slot of an accepted commit stands in the log then and in every later state
  abbrev pub CommitsStand : Type 0
  CommitsStand = (h : Ledger C) (w v u : World) (j n : ℕ) → Reaches m h w → Does m (service_plan m (commits j) w) w (Ok n) v → Later m v u
      → at (whole m u.devices) n ≡ Some (Job Commit j)

  -- While the server serves, the jobs with a commit in the log are exactly the kept ones
  abbrev pub KeptExactly : Type 0
  KeptExactly = (h : Ledger C) (w : World) → Reaches m h w → is_serving w.memory ≡ true
      → (j : ℕ) → is_committed (whole m w.devices) j ≡ is_in j h.kept

  -- Each compensation in the log takes back the change that it stands for, and no two ever stand for one change
  pub record Compensated (w : World) : Type 0 where
    pub each : AllTakeBack (whole m w.devices)
    pub once : NeverTwice (whole m w.devices)

  abbrev pub CompensatedOnce : Type 0
  CompensatedOnce = (h : Ledger C) (w : World) → Reaches m h w → Compensated w

  -- When a restart finishes, exactly one compensation stands for each change of a job that is not kept
  abbrev pub LosersUndone : Type 0
  LosersUndone = (h : Ledger C) (w v : World) (a : ℕ × ℕ) → Reaches m h w → Does m (undo_plan m w) w (Ok a) v
      → AllOnce (λ j. is_in j h.kept) (whole m v.devices)

  -- From every complete checkpoint of the log that power leaves, a restart comes to the same as from slot 1; and that is where the passes come to
  pub record Agrees (w : World) : Type 0 where
    pub each : (e b : ℕ) → at (whole m (powered_on w.devices)) e ≡ Some (Checkpoint (Complete b))
        → restart_by (powered_on w.devices) e ≡ restart_by (powered_on w.devices) 0
    pub outcome : Outcome C
    pub from_slot_1 : restart_by (powered_on w.devices) 0 ≡ Ok outcome
    pub copies : (v : World) → Restarted w v → (working v.memory).copies ≡ outcome.copies
    pub appended : (v : World) → Restarted w v → whole m v.devices ≡ map Some outcome.appended ++ whole m (powered_on w.devices)

  abbrev pub CheckpointsAgree : Type 0
  CheckpointsAgree = (h : Ledger C) (w : World) → Reaches m h w → Agrees w

  -- Analysis is never refused, redo only for not being the next pass, undo only for that or for a loss of power; and where power is kept a restart finishes
  pub record PassesAccepted (w : World) : Type 0 where
    pub analysis : (v : World) (r : Result (ℕ × ℕ × ℕ) Refusal) (why : Refusal) → Does m (analysis_plan m w) w r v → r ≢ Err why
    pub redo : (v : World) (r : Result (ℕ × ℕ) Refusal) (why : Refusal) → Does m (redo_plan m w) w r v → r ≡ Err why → number_of why ≡ 2
    pub undo : (v : World) (r : Result (ℕ × ℕ) Refusal) (why : Refusal) → Does m (undo_plan m w) w r v → r ≡ Err why → (number_of why ≡ 2) ⊎ (number_of why ≡ 17)
    pub finished : World
    pub finishes : Restarted w finished

  abbrev pub NeverRefused : Type 0
  NeverRefused = (h : Ledger C) (w : World) → Reaches m h w → PassesAccepted w

  -- A restart right after a finished one appends nothing and reaches the same copies
  pub record Unchanged (w v : World) : Type 0 where
    pub log : whole m v.devices ≡ whole m w.devices
    pub copies : (working v.memory).copies ≡ (working w.memory).copies

  abbrev pub AgainNothing : Type 0
  AgainNothing = (h : Ledger C) (w v u : World) (a : ℕ × ℕ) → Reaches m h w → Does m (undo_plan m w) w (Ok a) v → Restarted v u → Unchanged v u

  -- A restart that was cut anywhere, any number of times, and then finished reaches the same content on every page as one that was not
  abbrev pub CutOrNot : Type 0
  CutOrNot = (h : Ledger C) (w v x u : World) → Reaches m h w → Restarted w v → Passes w x → Restarted x u
      → (p : ℕ) → (copy_in v p).content ≡ (copy_in u p).content
