-- Operations that keep what holds at all times, whatever comes of them. Definitions for proofs only. Assumes nothing.
use Rattle.std.proofs.Common.{◌≡◌, ℕ, ◌<◌, ◌≤◌, true, List, [], ◌∷◌, Some, Err, Result}
use Rattle.format.specs.declared.page.Page.{Page}
use Rattle.format.specs.declared.slot.Slot.{Slot}
use Rattle.format.specs.declared.slot.Slot.TheVariants.{Record, Job, Checkpoint}
use Rattle.format.specs.declared.slot.JobEvent.{JobEvent}
use Rattle.format.specs.declared.slot.JobEvent.TheVariants.{Open, Commit, End}
use Rattle.format.specs.declared.slot.CheckpointPart.{CheckpointPart}
use Rattle.format.specs.declared.slot.CheckpointPart.TheVariants.{Begin, DirtyPage, OpenJob, Complete}
use Rattle.format.specs.Changes.{Meaning}
use Rattle.recovery_log.specs.Log.{Log, new_number, is_committed}
use Rattle.rules.specs.declared.refusal.Refusal.{Refusal}
use Rattle.rules.specs.Ledger.{Ledger, is_in}
use Rattle.rules.specs.Numbers.{number_of}
use Rattle.rules.specs.Plans.{Op, append, force, write, Did}
use Rattle.rules.specs.Restart.{whole}
use Rattle.rules.specs.State.{Devices, Memory, out, World, size, log_length}
use Rattle.promises.proofs.Invariants.{Truth, entries_by, pile_by, stored_lrcs, Kept}
use Rattle.promises.proofs.Legal.{count, pile, image, NextSlot, Room, Alone}

module _ {C : Type 0} where
  -- the end of a checkpoint makes it complete, so it must tell the truth
  abbrev pub Completed : (ℕ → ℕ) → Log C → CheckpointPart → Type 0
  Completed lrcs L Begin = Unit {0}
  Completed lrcs L (DirtyPage p s) = Unit {0}
  Completed lrcs L (OpenJob j n) = Unit {0}
  Completed lrcs L (Complete b) = Truth lrcs (Some (Checkpoint (Complete b)) ∷ L) (new_number L)

  -- a commit is of a job that the ledger takes for doubtful, and all its entries are in the log
  pub record Commits (h : Ledger C) (L : Log C) (j : ℕ) : Type 0 where
    pub doubted : is_in j h.doubtful ≡ true
    pub entries : (p : ℕ) → entries_by (is_committed (Some (Job Commit j) ∷ L)) p h.entries ≡ pile_by (is_committed (Some (Job Commit j) ∷ L)) (pile L p)

  abbrev pub Turned : JobEvent → Ledger C → Log C → ℕ → Type 0
  Turned Open h L j = Unit {0}
  Turned Commit h L j = Commits h L j
  Turned End h L j = Unit {0}

  -- what a slot owes to the stored pages and to the ledger
  abbrev pub Honest : Ledger C → (ℕ → ℕ) → Log C → Slot C → Type 0
  Honest h lrcs L (Record r) = Unit {0}
  Honest h lrcs L (Job e j) = Turned e h L j
  Honest h lrcs L (Checkpoint c) = Completed lrcs L c

  -- slots put on top of a log, the newest first
  abbrev pub onto : List (Slot C) → Log C → Log C
  onto [] L = L
  onto (s ∷ ss) L = Some s ∷ onto ss L

module _ {C : Type 0} (m : Meaning C) where
  pub record SafeAppend (h : Ledger C) (d : Devices) (s : Slot C) : Type 0 where
    pub fits : NextSlot (size d) (Some s) (whole m d)
    pub room : Room d.log.capacity (Some s ∷ whole m d)
    pub alone : Alone (Some s) (whole m d)
    pub honest : Honest h (stored_lrcs m d) (whole m d) s

  -- the log is forced before a page is written, and the page is no older than the stored one
  pub record SafeWrite (d : Devices) (p : ℕ) (page : Page) : Type 0 where
    pub inside : p < size d
    pub forced : d.log.forced ≡ log_length d
    pub image : page ≡ image m (whole m d) p page.lrc
    pub above : stored_lrcs m d p ≤ page.lrc
    pub below : page.lrc ≤ count (whole m d) p

  abbrev pub Safe : Ledger C → Op C → Devices → Type 0
  Safe h (append s) d = SafeAppend h d s
  Safe h force d = Unit {0}
  Safe h (write p page) d = SafeWrite d p page

  -- each operation is safe after those before it
  abbrev pub SafeOps : Ledger C → List (Op C) → Devices → Type 0
  SafeOps h [] d = Unit {0}
  SafeOps h (op ∷ ops) d = Safe h op d × ((e : Devices) → Did m op d e → SafeOps h ops e)

  -- the operations are all done
  pub data Dids : List (Op C) → Devices → Devices → Type 0 where
    none : {d : Devices} → Dids [] d d
    next : {op : Op C} {ops : List (Op C)} {d e f : Devices} → Did m op d e → Dids ops e f → Dids (op ∷ ops) d f

  -- what comes of safe operations: all are done, or power is lost on the way
  pub data Ended {A : Type 0} (h : Ledger C) (answer : Result A Refusal) (after : Memory) (ops : List (Op C)) (d : Devices) (r : Result A Refusal) (w : World) : Type 0 where
    all_done : r ≡ answer → w.memory ≡ after → Dids ops d w.devices → Kept m h w.devices → Ended h answer after ops d r w
    lost : (why : Refusal) → r ≡ Err why → number_of why ≡ 17 → w.memory ≡ out → Kept m h w.devices → Ended h answer after ops d r w

  -- what appends leave, however far they raised the forced count
  pub record Grown (ss : List (Slot C)) (d e : Devices) : Type 0 where
    pub log : whole m e ≡ onto ss (whole m d)
    pub pages : e.pages ≡ d.pages
    pub capacity : e.log.capacity ≡ d.log.capacity
    pub raised : d.log.forced ≤ e.log.forced
    pub held : e.log.forced ≤ log_length e
    pub power : d.log.powered ≡ true → e.log.powered ≡ true
