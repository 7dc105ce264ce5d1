-- What holds over any devices, by the server's stage, and stronger than what is promised. Definitions for proofs, and what the stages share.
use Rattle.std.proofs.Common.{◌≡◌, ℕ, suc, ◌+◌, ◌≤◌, true, leb, List, [], ◌∷◌, length, is_some, Some, None, Option, sym, refl, ap, ◌∙◌, arith}
use Rattle.std.proofs.lemmas.Bool.{leb-true, and_parts}
use Rattle.format.specs.declared.page.Page.{Page}
use Rattle.format.specs.declared.slot.Slot.{Slot}
use Rattle.format.specs.declared.slot.Slot.TheVariants.{Record, Job, Checkpoint}
use Rattle.format.specs.declared.slot.PageRecord.{PageRecord}
use Rattle.format.specs.declared.slot.Action.TheVariants.{Put}
use Rattle.format.specs.Changes.{Meaning}
use Rattle.recovery_log.specs.Log.{Log, Numbered, pending}
use Rattle.rules.specs.declared.table.JobEntry.{JobEntry}
use Rattle.rules.specs.Plans.{Op, append, force, write}
use Rattle.rules.specs.Reading.{at}
use Rattle.rules.specs.Restart.{whole}
use Rattle.rules.specs.Service.{copy_of, log_read}
use Rattle.rules.specs.State.{Devices, Found, Working, Memory, out, analysed, redone, serving, size, log_length, sizes_legal}
use Rattle.rules.specs.Tables.{Jobs, find_job, least_start, owed}
use Rattle.promises.proofs.AnyDevicesPlans.{Powered, After, pushed}
use Rattle.promises.proofs.AnyDevicesSlots.{Each}
use Rattle.promises.proofs.Decoded.{whole_length}
use Rattle.promises.proofs.JobTables.{Ascending}

-- what holds of each element of a list
abbrev pub All : {A : Type 0} → (A → Type 0) → List A → Type 0
All P [] = Unit {0}
All P (x ∷ xs) = P x × All P xs

-- a number of a job that stands in a log of n slots
abbrev pub Named : ℕ → JobEntry → Type 0
Named n x = (1 ≤ x.job) × (x.job ≤ n)

-- LRCs are at most 4,096 above the length of the log
abbrev pub Copies : ℕ → List Page → Type 0
Copies n copies = (p : ℕ) → (copy_of copies p).lrc ≤ 4096 + n

module _ {C : Type 0} where
  abbrev pub There : ℕ → ℕ → Option (Slot C) → Type 0
  There first n x = first ≤ n → is_some x ≡ true

  -- what is asked of a slot if it is a record
  abbrev pub OfRecord : (PageRecord C → Type 0) → Option (Slot C) → Type 0
  OfRecord P None = Unit {0}
  OfRecord P (Some (Record r)) = P r
  OfRecord P (Some (Job e j)) = Unit {0}
  OfRecord P (Some (Checkpoint c)) = Unit {0}

  -- from the first slot read whole on the LRC of a record is at most 4,096 above its number
  abbrev pub Low : ℕ → ℕ → Option (Slot C) → Type 0
  Low first n x = OfRecord (λ r. first ≤ n → r.lrc ≤ 4096 + n) x

  -- redo reads every record that analysis read
  abbrev pub Starts : ℕ → ℕ → ℕ → Option (Slot C) → Type 0
  Starts first least n x = OfRecord (λ r. first ≤ n → (1 ≤ least) × (least ≤ n)) x

  -- a job's pending changes, from its next down: each stands in the log, and its link is the number of the one below
  abbrev pub Stack : Log C → ℕ → ℕ → List (Numbered C) → Type 0
  Stack L j n [] = n ≡ 0
  Stack L j n (x ∷ xs) =
      (at L n ≡ Some (Record x.record')) × (x.record'.action ≡ Put) × (x.record'.job ≡ j) × Stack L j x.record'.link xs

  pub record Stacked (L : Log C) (j : ℕ) (e : JobEntry) : Type 0 where
    pub named : Named (length L) e
    pub own : e.job ≡ j
    pub stack : Stack L j e.next (pending L j)

  pub record Table (L : Log C) (jobs : Jobs) : Type 0 where
    pub ascending : Ascending jobs
    pub each : (j : ℕ) (e : JobEntry) → find_job j jobs ≡ Some e → Stacked L j e

module _ {C : Type 0} (m : Meaning C) where
  -- The stages

  pub record Ready (d : Devices) (first : ℕ) : Type 0 where
    pub power : Powered d
    pub sizes : sizes_legal d ≡ true
    pub one : 1 ≤ first
    pub until : first ≤ suc (log_length d)
    pub there : Each (There first) (whole m d)

  pub record Analysed (d : Devices) (f : Found) : Type 0 where
    pub ready : Ready d f.first
    pub jobs : All (Named (log_length d)) f.jobs
    pub starts : Each (Starts f.first (least_start f.dirty)) (whole m d)

  pub record Redone (d : Devices) (s : Working) : Type 0 where
    pub ready : Ready d s.first
    pub low : Each (Low s.first) (whole m d)
    pub copies : Copies (log_length d) s.copies
    pub jobs : All (Named (log_length d)) s.jobs

  pub record Serving (d : Devices) (s : Working) : Type 0 where
    pub ready : Ready d s.first
    pub low : Each (Low s.first) (whole m d)
    pub copies : Copies (log_length d) s.copies
    pub table : Table (log_read m d s) s.jobs
    pub room : owed (log_read m d s) s.jobs + log_length d ≤ d.log.capacity

  abbrev pub Fine : Devices → Memory → Type 0
  Fine d out = Unit {0}
  Fine d (analysed f) = Analysed d f
  Fine d (redone s) = Redone d s
  Fine d (serving s) = Serving d s

  -- After operations

  pushed_there : (first : ℕ) (ops : List (Op C)) (L : Log C) → Each (There first) L → Each (There first) (pushed ops L)
  pushed_there first [] L h = h
  pushed_there first (append s ∷ ops) L h = pushed_there first ops (Some s ∷ L) (λ le. refl, h)
  pushed_there first (force ∷ ops) L h = pushed_there first ops L h
  pushed_there first (write p page ∷ ops) L h = pushed_there first ops L h

  sizes_same : (d e : Devices) → size e ≡ size d → e.log.capacity ≡ d.log.capacity → sizes_legal e ≡ sizes_legal d
  sizes_same d e a b = rw (a, b)

  module _ {ops : List (Op C)} {d e : Devices} (x : After m ops d e) where
    pub whole_after : whole m e ≡ pushed ops (whole m d)
    whole_after = x.grown 1 (omega arith)

    pub length_after : log_length e ≡ length (pushed ops (whole m d))
    length_after = sym (whole_length m e) ∙ ap length whole_after

    pub ready_after : (first : ℕ) → Ready d first → Ready e first
    ready_after first h = record {
      power = x.power;
      sizes = sizes_same d e x.size_same x.capacity_same ∙ h.sizes;
      one = h.one;
      until = let a = h.until in let b = x.longer in omega arith;
      there = rw whole_after (pushed_there first ops (whole m d) h.there);
    }

pub sizes_parts : (d : Devices) → sizes_legal d ≡ true → (1 ≤ size d) × (size d ≤ 64) × (8 ≤ d.log.capacity) × (d.log.capacity ≤ 4096)
sizes_parts d h =
    let a = and_parts (leb 1 (size d)) _ h in
    let b = and_parts (leb (size d) 64) _ a.1 in
    let c = and_parts (leb 8 d.log.capacity) _ b.1 in
    (leb-true 1 (size d) a.0, leb-true (size d) 64 b.0, leb-true 8 d.log.capacity c.0, leb-true d.log.capacity 4096 c.1)
