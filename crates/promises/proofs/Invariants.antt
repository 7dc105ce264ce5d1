-- What holds in every state of a run: of the devices at all times, of the ledger at all times, and of the server's memory by its stage.
-- Definitions for proofs only. Assumes nothing.
use Rattle.std.proofs.Common.{◌≡◌, ℕ, pred, ◌≤◌, Bool, true, false, cond, ◌&&◌, ◌||◌, eqb, List, [], ◌∷◌, map, length, get_or, replicate, Some, Ok, unwrap_or}
use Rattle.std.specs.Option.{option_map}
use Rattle.format.specs.declared.page.Page.{Page}
use Rattle.format.specs.declared.slot.Slot.TheVariants.{Checkpoint}
use Rattle.format.specs.declared.slot.CheckpointPart.TheVariants.{Complete}
use Rattle.format.specs.Changes.{Meaning}
use Rattle.format.specs.Pages.{page_of}
use Rattle.recovery_log.specs.Log.{Log, new_number, is_open, is_committed, Numbered, pending}
use Rattle.rules.specs.declared.table.DirtyPage.{DirtyPage}
use Rattle.rules.specs.Ledger.{Ledger, Entry, is_in}
use Rattle.rules.specs.Reading.{at, up_to}
use Rattle.rules.specs.Restart.{Start, start_at, whole}
use Rattle.rules.specs.Service.{copy_of}
use Rattle.rules.specs.State.{Devices, Found, Working, Memory, out, analysed, redone, serving, World, size, log_length, sizes_legal}
use Rattle.rules.specs.Tables.{Jobs, Dirty, new_job, find_page, held_by, is_held}
use Rattle.promises.proofs.Legal.{count, pile, image, whole_page, open_jobs, Legal, Exclusive}
use Rattle.promises.proofs.Membership.{In}

-- where redo starts for a page: at its entry, or at n where it has none
abbrev pub start_of : ℕ → Dirty → ℕ → ℕ
start_of p dirty n = unwrap_or (option_map (λ e. e.start) (find_page p dirty)) n

abbrev pub Positive : Dirty → Type 0
Positive dirty = (e : DirtyPage) → In e dirty → 1 ≤ e.start

-- a table of jobs without what they hold
abbrev pub bare : Jobs → Jobs
bare [] = []
bare (x ∷ xs) = new_job x.job x.next ∷ bare xs

module _ {C : Type 0} where
  -- the slots before a number
  abbrev pub before : ℕ → Log C → Log C
  before n L = up_to (pred n) L

  -- every record of a page before its redo start is in a page of that LRC; a page without an entry starts at n
  abbrev pub Covers : (ℕ → ℕ) → Dirty → ℕ → Log C → Type 0
  Covers lrcs dirty n L = (p : ℕ) → count (before (start_of p dirty n) L) p ≤ lrcs p

  -- a complete checkpoint, by its end, says what was open at its begin and what the stored pages lack
  pub record Truth (lrcs : ℕ → ℕ) (L : Log C) (e : ℕ) : Type 0 where
    pub start : Start
    pub reads : start_at L e ≡ Ok start
    pub from : 1 ≤ start.begin
    pub until : start.begin ≤ e
    pub jobs : start.found.jobs ≡ open_jobs (before start.begin L)
    pub pages : Covers lrcs start.found.dirty start.begin L
    pub positive : Positive start.found.dirty

  -- The ledger beside the log

  abbrev pub live : Log C → ℕ → Bool
  live L j = is_open L j || is_committed L j

  abbrev pub entry_of : Numbered C → Entry C
  entry_of x = record { job = x.record'.job; page = x.record'.page; change = x.record'.change }

  -- the entries of a page, and the pending changes of a page, of the jobs that pass a test
  abbrev pub entries_by : (ℕ → Bool) → ℕ → List (Entry C) → List (Entry C)
  entries_by test p [] = []
  entries_by test p (e ∷ es) = cond (eqb e.page p && test e.job) (e ∷ entries_by test p es) (entries_by test p es)

  abbrev pub pile_by : (ℕ → Bool) → List (Numbered C) → List (Entry C)
  pile_by test [] = []
  pile_by test (x ∷ xs) = cond (test x.record'.job) (entry_of x ∷ pile_by test xs) (pile_by test xs)

module _ {C : Type 0} (m : Meaning C) where
  -- the stored page, for every number: beyond the store a page is blank
  abbrev pub stored : Devices → ℕ → Page
  stored d p = page_of (get_or d.pages.pages p (replicate 256 0))

  abbrev pub stored_lrcs : Devices → ℕ → ℕ
  stored_lrcs d p = (stored d p).lrc

  -- The devices, at all times: a legal log; stored pages that are images of their records, all of which are forced; checkpoints that tell the truth
  pub record Durable (d : Devices) : Type 0 where
    pub sizes : sizes_legal d ≡ true
    pub forced : d.log.forced ≤ log_length d
    pub legal : Legal (size d) d.log.capacity (whole m d)
    pub exclusive : Exclusive (whole m d)
    pub images : (p : ℕ) → stored d p ≡ image m (whole m d) p (stored_lrcs d p)
    pub ahead : (p : ℕ) → stored_lrcs d p ≤ count (up_to d.log.forced (whole m d)) p
    pub truths : (e b : ℕ) → at (whole m d) e ≡ Some (Checkpoint (Complete b)) → Truth (stored_lrcs d) (whole m d) e

  -- The ledger, at all times: the entries of committed jobs are their changes in the log; a commit in the log is of a job that is kept or doubtful, and
  -- that of a kept job is forced; a job with an entry has its open among the forced slots, so that its number is not used again
  pub record Book (h : Ledger C) (d : Devices) : Type 0 where
    pub entries : (p : ℕ) → entries_by (is_committed (whole m d)) p h.entries ≡ pile_by (is_committed (whole m d)) (pile (whole m d) p)
    pub committed : (j : ℕ) → is_committed (whole m d) j ≡ true → (is_in j h.kept || is_in j h.doubtful) ≡ true
    pub kept : (j : ℕ) → is_in j h.kept ≡ true → is_committed (up_to d.log.forced (whole m d)) j ≡ true
    pub old : (e : Entry C) → In e h.entries → e.job ≤ d.log.forced

  -- what holds at all times, whatever the power
  pub record Kept (h : Ledger C) (d : Devices) : Type 0 where
    pub durable : Durable d
    pub book : Book h d

  -- The stages

  -- nobody is doubtful, and exactly the jobs with a commit are kept
  pub record Settled (h : Ledger C) (d : Devices) : Type 0 where
    pub none : h.doubtful ≡ []
    pub exact : (j : ℕ) → is_in j h.kept ≡ is_committed (whole m d) j

  pub record Powered (d : Devices) : Type 0 where
    pub pages : d.pages.powered ≡ true
    pub log : d.log.powered ≡ true

  pub record Analysed (d : Devices) (f : Found) : Type 0 where
    pub power : Powered d
    pub jobs : f.jobs ≡ open_jobs (whole m d)
    pub pages : Covers (stored_lrcs d) f.dirty (new_number (whole m d)) (whole m d)
    pub positive : Positive f.dirty
    pub from : 1 ≤ f.first
    pub until : f.first ≤ new_number (whole m d)

  -- the first slot read whole: the stored pages have every record before it
  pub record First (d : Devices) (first : ℕ) : Type 0 where
    pub from : 1 ≤ first
    pub until : first ≤ new_number (whole m d)
    pub covers : (p : ℕ) → count (before first (whole m d)) p ≤ stored_lrcs d p

  pub record Redone (d : Devices) (s : Working) : Type 0 where
    pub power : Powered d
    pub jobs : s.jobs ≡ open_jobs (whole m d)
    pub many : length s.copies ≡ size d
    pub copies : (p : ℕ) → copy_of s.copies p ≡ whole_page m (whole m d) p
    pub first : First d s.first

  -- a copy is its page up to an LRC not below the stored one, and up to its last where nobody holds the page
  pub record Copy (d : Devices) (s : Working) (p : ℕ) : Type 0 where
    pub image : copy_of s.copies p ≡ image m (whole m d) p (copy_of s.copies p).lrc
    pub above : stored_lrcs d p ≤ (copy_of s.copies p).lrc
    pub below : (copy_of s.copies p).lrc ≤ count (whole m d) p
    pub complete : is_held p s.jobs ≡ false → (copy_of s.copies p).lrc ≡ count (whole m d) p

  pub record Serving (d : Devices) (s : Working) : Type 0 where
    pub power : Powered d
    pub jobs : bare s.jobs ≡ open_jobs (whole m d)
    pub one : (j k p : ℕ) → held_by j p s.jobs ≡ true → held_by k p s.jobs ≡ true → j ≡ k
    pub changed : (j : ℕ) (x : Numbered C) → is_open (whole m d) j ≡ true → In x (pending (whole m d) j) → held_by j x.record'.page s.jobs ≡ true
    pub many : length s.copies ≡ size d
    pub copies : (p : ℕ) → Copy d s p
    pub first : First d s.first
    -- a job that is open was opened after the restart, so that all its records are read
    pub young : (j : ℕ) → is_open (whole m d) j ≡ true → s.first ≤ j
    -- its open is forced, so that its number is not used again
    pub opened : (j : ℕ) → is_open (whole m d) j ≡ true → j ≤ d.log.forced

  -- in service the entries of jobs open or committed are the changes of the log that stand
  abbrev pub Entered : Ledger C → Devices → Type 0
  Entered h d = (p : ℕ) → entries_by (live (whole m d)) p h.entries ≡ map entry_of (pile (whole m d) p)

  abbrev pub Stage : Ledger C → Devices → Memory → Type 0
  Stage h d out = Unit {0}
  Stage h d (analysed f) = Settled h d × Analysed d f
  Stage h d (redone s) = Settled h d × Redone d s
  Stage h d (serving s) = Settled h d × Serving d s × Entered h d

  pub record Good (h : Ledger C) (w : World) : Type 0 where
    pub kept : Kept h w.devices
    pub stage : Stage h w.devices w.memory
