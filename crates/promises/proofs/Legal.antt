-- The logs that a server writes: what each slot owes to the older ones. A legal log stays legal when its newest slots are lost.
-- Definitions for proofs only. Assumes nothing.
use Rattle.std.proofs.Common.{◌≡◌, ℕ, suc, ◌+◌, ◌<◌, ◌≤◌, Bool, true, false, cond, not, ◌&&◌, eqb, ltb, List, [], ◌∷◌, length, Some, None, Option}
use Rattle.format.specs.declared.page.Page.{Page}
use Rattle.format.specs.declared.slot.Slot.{Slot}
use Rattle.format.specs.declared.slot.Slot.TheVariants.{Record, Job, Checkpoint}
use Rattle.format.specs.declared.slot.PageRecord.{PageRecord}
use Rattle.format.specs.declared.slot.Action.{Action}
use Rattle.format.specs.declared.slot.Action.TheVariants.{Put, TakeBack}
use Rattle.format.specs.declared.slot.JobEvent.{JobEvent}
use Rattle.format.specs.declared.slot.JobEvent.TheVariants.{Open, Commit, End}
use Rattle.format.specs.declared.slot.CheckpointPart.{CheckpointPart}
use Rattle.format.specs.declared.slot.CheckpointPart.TheVariants.{Begin, DirtyPage, OpenJob, Complete}
use Rattle.format.specs.Changes.{Meaning}
use Rattle.format.specs.Pages.{blank_page}
use Rattle.recovery_log.specs.Log.{Log, new_number, is_open, next, next_by, Numbered, pending, pending_by}
use Rattle.rules.specs.Playing.{acted, up_to_lrc}
use Rattle.rules.specs.Tables.{Jobs, new_job, entered, with_next, without_job, owed}

-- the table of open jobs after an event
abbrev pub jobs_by : JobEvent → ℕ → Jobs → Jobs
jobs_by Open j t = entered (new_job j 0) t
jobs_by Commit j t = without_job j t
jobs_by End j t = without_job j t

module _ {C : Type 0} where
  -- Pages

  -- how many records of the page there are
  abbrev pub count : Log C → ℕ → ℕ
  count [] p = 0
  count (None ∷ L) p = count L p
  count (Some (Record r) ∷ L) p = cond (eqb r.page p) (suc (count L p)) (count L p)
  count (Some (Job e j) ∷ L) p = count L p
  count (Some (Checkpoint c) ∷ L) p = count L p

  -- the changes of the page not yet taken back, the newest first: as a job's pending changes, by page
  abbrev pub pile : Log C → ℕ → List (Numbered C)
  pile [] p = []
  pile (None ∷ L) p = pile L p
  pile (Some (Record r) ∷ L) p = cond (eqb r.page p) (pending_by r.action (record { number = new_number L; record' = r }) (pile L p)) (pile L p)
  pile (Some (Job e k) ∷ L) p = pile L p
  pile (Some (Checkpoint c) ∷ L) p = pile L p

  -- the page after a record, whatever LRC it had
  abbrev pub after_record : Meaning C → PageRecord C → Page → Page
  after_record m r page = record { lrc = r.lrc; content = acted m r.action r.change page.content }

  -- the page with its records up to an LRC
  abbrev pub image : Meaning C → Log C → ℕ → ℕ → Page
  image m [] p k = blank_page
  image m (None ∷ L) p k = image m L p k
  image m (Some (Record r) ∷ L) p k = cond (up_to_lrc p k r) (after_record m r (image m L p k)) (image m L p k)
  image m (Some (Job e j) ∷ L) p k = image m L p k
  image m (Some (Checkpoint c) ∷ L) p k = image m L p k

  -- the page with all its records
  abbrev pub whole_page : Meaning C → Log C → ℕ → Page
  whole_page m L p = image m L p (count L p)

  -- Jobs

  -- the open jobs with their nexts, made as the calls make their table
  abbrev pub open_jobs : Log C → Jobs
  open_jobs [] = []
  open_jobs (None ∷ L) = open_jobs L
  open_jobs (Some (Record r) ∷ L) = with_next r.job (next_by r.action (new_number L) r.link) (open_jobs L)
  open_jobs (Some (Job e j) ∷ L) = jobs_by e j (open_jobs L)
  open_jobs (Some (Checkpoint c) ∷ L) = open_jobs L

  -- what the log must have room for
  abbrev pub owed_by : Log C → ℕ
  owed_by L = owed L (open_jobs L)

  -- What a slot owes to the older ones

  -- a compensation takes back its job's newest pending change
  pub record Undoes (L : Log C) (r : PageRecord C) : Type 0 where
    pub top : Numbered C
    pub below : List (Numbered C)
    pub stack : pending L r.job ≡ top ∷ below
    pub page : r.page ≡ top.record'.page
    pub change : r.change ≡ top.record'.change
    pub link : r.link ≡ top.record'.link

  abbrev pub Follows : Action → Log C → PageRecord C → Type 0
  Follows Put L r = r.link ≡ next L r.job
  Follows TakeBack L r = Undoes L r

  pub record Recorded (size : ℕ) (L : Log C) (r : PageRecord C) : Type 0 where
    pub opened : is_open L r.job ≡ true
    pub inside : r.page < size
    pub numbered : r.lrc ≡ suc (count L r.page)
    pub follows : Follows r.action L r

  pub record Opens (L : Log C) (j : ℕ) : Type 0 where
    pub own : j ≡ new_number L
    pub place : length (open_jobs L) < 8

  pub record Ends (L : Log C) (j : ℕ) : Type 0 where
    pub opened : is_open L j ≡ true
    pub nothing : pending L j ≡ []

  abbrev pub Turns : JobEvent → Log C → ℕ → Type 0
  Turns Open L j = Opens L j
  Turns Commit L j = is_open L j ≡ true
  Turns End L j = Ends L j

  -- a part of a checkpoint only has to fit; what a complete checkpoint says is a matter of the devices
  abbrev pub Marks : ℕ → CheckpointPart → Log C → Type 0
  Marks size Begin L = Unit {0}
  Marks size (DirtyPage p s) L = (p < size) × (1 ≤ s) × (s ≤ length L)
  Marks size (OpenJob j n) L = (1 ≤ j) × (j ≤ length L) × (n ≤ length L)
  Marks size (Complete b) L = (1 ≤ b) × (b ≤ length L)

  abbrev pub NextSlot : ℕ → Option (Slot C) → Log C → Type 0
  NextSlot size None L = ⊥
  NextSlot size (Some (Record r)) L = Recorded size L r
  NextSlot size (Some (Job e j)) L = Turns e L j
  NextSlot size (Some (Checkpoint c)) L = Marks size c L

  abbrev pub Room : ℕ → Log C → Type 0
  Room capacity L = length L + owed_by L ≤ capacity

  abbrev pub Legal : ℕ → ℕ → Log C → Type 0
  Legal size capacity [] = Unit {0}
  Legal size capacity (s ∷ L) = Legal size capacity L × NextSlot size s L × Room capacity (s ∷ L)

  -- Exclusive: while a job has pending changes on a page, no other job changes that page

  -- no change of the job is among these
  abbrev pub none_by : ℕ → List (Numbered C) → Bool
  none_by j [] = true
  none_by j (x ∷ xs) = not (eqb x.record'.job j) && none_by j xs

  abbrev pub Alone : Option (Slot C) → Log C → Type 0
  Alone None L = Unit {0}
  Alone (Some (Record r)) L = (j : ℕ) → is_open L j ≡ true → eqb j r.job ≡ false → none_by j (pile L r.page) ≡ true
  Alone (Some (Job e j)) L = Unit {0}
  Alone (Some (Checkpoint c)) L = Unit {0}

  abbrev pub Exclusive : Log C → Type 0
  Exclusive [] = Unit {0}
  Exclusive (s ∷ L) = Exclusive L × Alone s L

  -- Losing the newest slots

  pub data Older (M : Log C) : Log C → Type 0 where
    same : Older M M
    more : {s : Option (Slot C)} {L : Log C} → Older M L → Older M (s ∷ L)

  -- nothing where a slot stands before the first that is read
  abbrev pub masked : ℕ → Log C → Log C
  masked first [] = []
  masked first (s ∷ L) = cond (ltb (new_number L) first) None s ∷ masked first L
