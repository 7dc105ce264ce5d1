-- What every call promises beside what it does. Assumes nothing.
use Rattle.std.specs.Prelude.{◌≡◌, ℕ, ◌≤◌, Bool, true, Some, Result}
use Rattle.format.specs.declared.slot.Slot.TheVariants.{Job}
use Rattle.format.specs.declared.slot.JobEvent.TheVariants.{Commit}
use Rattle.format.specs.Changes.{Meaning}
use Rattle.recovery_log.specs.Log.{is_committed}
use Rattle.rules.specs.declared.refusal.Refusal.{Refusal}
use Rattle.rules.specs.Ledger.{Ledger, empty, is_in}
use Rattle.rules.specs.Reading.{at}
use Rattle.rules.specs.Restart.{whole}
use Rattle.rules.specs.Runs.{Call, Answer, told, Reaches, blank, left_over}
use Rattle.rules.specs.State.{World, out, is_serving}
use Rattle.promises.specs.AnyDevices.{Orderly}
use Rattle.promises.specs.Promises.{Compensated}

module _ {C : Type 0} (m : Meaning C) where
  -- A call, by its answer and the states before and after it. It carries a run on, the ledger being told the call. Wherever in a run that leads: while the server serves, the jobs
  -- with a commit in the log are exactly the kept ones; and no two compensations stand for one change. And over any devices, the state is an orderly one.
  pub record Promised (c : Call) (w : World) (r : Result (Answer c) Refusal) (v : World) : Type 0 where
    pub carried : (h : Ledger C) → Reaches m h w → Reaches m (told m c r v h) v
    pub kept : (h : Ledger C) → Reaches m h v → is_serving v.memory ≡ true → (j : ℕ) → is_committed (whole m v.devices) j ≡ is_in j h.kept
    pub once : (h : Ledger C) → Reaches m h v → Compensated m v
    pub orderly : Orderly m v

  -- over blank devices of legal sizes a run begins, with an empty ledger
  abbrev pub Begun : World → Type 0
  Begun w = (n capacity : ℕ) (a b : Bool) → 1 ≤ n → n ≤ 64 → 8 ≤ capacity → capacity ≤ 4096 → w ≡ record { devices = blank m n capacity a b; memory = out } → Reaches m empty w

  -- over the devices that a state of a run leaves, the run goes on, with the same ledger
  abbrev pub Continued : World → Type 0
  Continued w = (h : Ledger C) (before : World) (cut a b : Bool) → Reaches m h before → w ≡ record { devices = left_over m cut a b before.devices; memory = out } → Reaches m h w

  -- the job's commit stands in that slot
  abbrev pub Committed : World → ℕ → ℕ → Type 0
  Committed w j n = at (whole m w.devices) n ≡ Some (Job Commit j)
