-- What a log says: of its jobs, of its pages, and of its checkpoints.
-- A log is the list of its slots with the newest first; a slot whose bytes do not fit is None. Assumes nothing.
use Rattle.std.specs.Prelude.{ℕ, suc, Bool, true, false, cond, ◌&&◌, ◌||◌, List, [], ◌∷◌, length, Some, None, Option, ◌==◌}
use Rattle.format.specs.declared.slot.Slot.{Slot}
use Rattle.format.specs.declared.slot.Slot.TheVariants.{Record, Job, Checkpoint}
use Rattle.format.specs.declared.slot.PageRecord.{PageRecord}
use Rattle.format.specs.declared.slot.Action.{Action}
use Rattle.format.specs.declared.slot.Action.TheVariants.{Put, TakeBack}
use Rattle.format.specs.declared.slot.JobEvent.{JobEvent}
use Rattle.format.specs.declared.slot.JobEvent.TheVariants.{Open, Commit, End}
use Rattle.format.specs.declared.slot.CheckpointPart.{CheckpointPart}
use Rattle.format.specs.declared.slot.CheckpointPart.TheVariants.{Begin, DirtyPage, OpenJob, Complete}
use Rattle.format.specs.declared.slot.kind.SlotKind.{SlotKind}
use Rattle.format.specs.Slots.{kind_number, kind_of}

abbrev pub Log : Type 0 → Type 0
Log C = List (Option (Slot C))

-- slots are numbered from 1: the number of the newest, and of the one that comes next
abbrev pub last_number : {C : Type 0} → Log C → ℕ
last_number L = length L

abbrev pub new_number : {C : Type 0} → Log C → ℕ
new_number L = suc (last_number L)

-- Jobs

abbrev pub opens : JobEvent → Bool
opens Open = true
opens Commit = false
opens End = false

abbrev pub commits : JobEvent → Bool
commits Open = false
commits Commit = true
commits End = false

abbrev pub ends : JobEvent → Bool
ends Open = false
ends Commit = false
ends End = true

-- the newest event of the job is its open
abbrev pub is_open : {C : Type 0} → Log C → ℕ → Bool
is_open [] j = false
is_open (None ∷ L) j = is_open L j
is_open (Some (Record r) ∷ L) j = is_open L j
is_open (Some (Job e k) ∷ L) j = cond (k == j) (opens e) (is_open L j)
is_open (Some (Checkpoint p) ∷ L) j = is_open L j

-- an event of that sort stands in the log for the job
abbrev pub stands : {C : Type 0} → (JobEvent → Bool) → Log C → ℕ → Bool
stands f [] j = false
stands f (None ∷ L) j = stands f L j
stands f (Some (Record r) ∷ L) j = stands f L j
stands f (Some (Job e k) ∷ L) j = (k == j && f e) || stands f L j
stands f (Some (Checkpoint p) ∷ L) j = stands f L j

abbrev pub is_committed : {C : Type 0} → Log C → ℕ → Bool
is_committed L j = stands commits L j

abbrev pub is_ended : {C : Type 0} → Log C → ℕ → Bool
is_ended L j = stands ends L j

-- the number of the job's newest change not yet taken back, or 0
abbrev pub next_by : Action → ℕ → ℕ → ℕ
next_by Put n link = n
next_by TakeBack n link = link

abbrev pub next : {C : Type 0} → Log C → ℕ → ℕ
next [] j = 0
next (None ∷ L) j = next L j
next (Some (Record r) ∷ L) j = cond (r.job == j) (next_by r.action (new_number L) r.link) (next L j)
next (Some (Job e k) ∷ L) j = next L j
next (Some (Checkpoint p) ∷ L) j = next L j

-- a change in the log: its number and its record
pub record Numbered (C : Type 0) : Type 0 where
  pub number : ℕ
  pub record' : PageRecord C

abbrev pub rest : {A : Type 0} → List A → List A
rest [] = []
rest (x ∷ xs) = xs

-- the job's changes not yet taken back, the newest first: a compensation stands for the newest
abbrev pub pending_by : {C : Type 0} → Action → Numbered C → List (Numbered C) → List (Numbered C)
pending_by Put x xs = x ∷ xs
pending_by TakeBack x xs = rest xs

abbrev pub pending : {C : Type 0} → Log C → ℕ → List (Numbered C)
pending [] j = []
pending (None ∷ L) j = pending L j
pending (Some (Record r) ∷ L) j = cond (r.job == j) (pending_by r.action (record { number = new_number L; record' = r }) (pending L j)) (pending L j)
pending (Some (Job e k) ∷ L) j = pending L j
pending (Some (Checkpoint p) ∷ L) j = pending L j

-- Pages

-- the LRC of the page's newest record
abbrev pub newest_lrc : {C : Type 0} → Log C → ℕ → Option ℕ
newest_lrc [] p = None
newest_lrc (None ∷ L) p = newest_lrc L p
newest_lrc (Some (Record r) ∷ L) p = cond (r.page == p) (Some r.lrc) (newest_lrc L p)
newest_lrc (Some (Job e k) ∷ L) p = newest_lrc L p
newest_lrc (Some (Checkpoint c) ∷ L) p = newest_lrc L p

-- Checkpoints

pub record DirtyPageEntry : Type 0 where
  pub page : ℕ
  pub start : ℕ

pub record OpenJobEntry : Type 0 where
  pub job : ℕ
  pub next : ℕ

-- a begin with the entries after it, the newest first
pub record Making : Type 0 where
  pub begin : ℕ
  pub pages : List DirtyPageEntry
  pub jobs : List OpenJobEntry

abbrev pub has_page : ℕ → List DirtyPageEntry → Bool
has_page p [] = false
has_page p (e ∷ es) = e.page == p || has_page p es

abbrev pub has_job : ℕ → List OpenJobEntry → Bool
has_job j [] = false
has_job j (e ∷ es) = e.job == j || has_job j es

abbrev pub with_page : ℕ → ℕ → Option Making → Option Making
with_page p s None = None
with_page p s (Some m) =
    cond (has_page p m.pages) None
    (Some (record { begin = m.begin; pages = record { page = p; start = s } ∷ m.pages; jobs = m.jobs }))

abbrev pub with_job : ℕ → ℕ → Option Making → Option Making
with_job j n None = None
with_job j n (Some m) =
    cond (has_job j m.jobs) None
    (Some (record { begin = m.begin; pages = m.pages; jobs = record { job = j; next = n } ∷ m.jobs }))

abbrev pub making_by : CheckpointPart → ℕ → Option Making → Option Making
making_by Begin n m = Some (record { begin = n; pages = []; jobs = [] })
making_by (DirtyPage p s) n m = with_page p s m
making_by (OpenJob j x) n m = with_job j x m
making_by (Complete b) n m = None

-- the checkpoint that the newest slots are making: a begin, then only entries, no page or job twice
abbrev pub making : {C : Type 0} → Log C → Option Making
making [] = None
making (None ∷ L) = None
making (Some (Record r) ∷ L) = None
making (Some (Job e k) ∷ L) = None
making (Some (Checkpoint p) ∷ L) = making_by p (new_number L) (making L)

-- a complete checkpoint, by the numbers of its begin and of its end
pub record Bounds : Type 0 where
  pub begin : ℕ
  pub end : ℕ

abbrev pub completed : Option Making → ℕ → ℕ → Option Bounds → Option Bounds
completed None b n was = was
completed (Some m) b n was = cond (m.begin == b) (Some (record { begin = b; end = n })) was

abbrev pub checkpoint_by : CheckpointPart → ℕ → Option Making → Option Bounds → Option Bounds
checkpoint_by Begin n m was = was
checkpoint_by (DirtyPage p s) n m was = was
checkpoint_by (OpenJob j x) n m was = was
checkpoint_by (Complete b) n m was = completed m b n was

-- the newest complete checkpoint: its end names the begin of what was in the making.
-- (Where a restart begins is a rule of its own: it goes by the last end, and does not pass over one that completes nothing.)
abbrev pub last_checkpoint : {C : Type 0} → Log C → Option Bounds
last_checkpoint [] = None
last_checkpoint (None ∷ L) = last_checkpoint L
last_checkpoint (Some (Record r) ∷ L) = last_checkpoint L
last_checkpoint (Some (Job e k) ∷ L) = last_checkpoint L
last_checkpoint (Some (Checkpoint p) ∷ L) = checkpoint_by p (new_number L) (making L) (last_checkpoint L)

-- Counts

-- how many slots do not fit
abbrev pub how_many_misfits : {C : Type 0} → Log C → ℕ
how_many_misfits [] = 0
how_many_misfits (None ∷ L) = suc (how_many_misfits L)
how_many_misfits (Some s ∷ L) = how_many_misfits L

abbrev pub is_of_kind : {C : Type 0} → SlotKind → Slot C → Bool
is_of_kind k s = kind_number (kind_of s) == kind_number k

-- how many slots are of the kind
abbrev pub how_many : {C : Type 0} → SlotKind → Log C → ℕ
how_many k [] = 0
how_many k (None ∷ L) = how_many k L
how_many k (Some s ∷ L) = cond (is_of_kind k s) (suc (how_many k L)) (how_many k L)
