-- What holds over devices with any bytes: what a server that is not out of service may rely on, what a refused call leaves, and that every slot it
-- appends can be read back. Assumes nothing.
use Rattle.std.specs.Prelude.{◌≡◌, ℕ, suc, ◌<◌, ◌≤◌, Bool, true, ◌⊎◌, List, [], ◌∷◌, is_some, Ok, Err, Result}
use Rattle.format.specs.Changes.{Meaning}
use Rattle.format.specs.Slots.{slot_bytes, read_slot}
use Rattle.device.specs.PageStores.{SoundPages}
use Rattle.device.specs.LogStores.{SoundLog}
use Rattle.rules.specs.declared.refusal.Refusal.{Refusal}
use Rattle.rules.specs.Numbers.{number_of}
use Rattle.rules.specs.Plans.{Op, append, force, write, Plan, asks, insists, powers_on, performs, powered_on, Does}
use Rattle.rules.specs.Reading.{at}
use Rattle.rules.specs.Restart.{whole}
use Rattle.rules.specs.Runs.{ServiceCall, Answers, Call, Answer, service_plan, plan_of, left_over}
use Rattle.rules.specs.Service.{copy_of, change_of, log_read, last_of}
use Rattle.rules.specs.State.{Devices, Working, Memory, out, analysed, redone, serving, World, size, log_length, free, sizes_legal}
use Rattle.rules.specs.Tables.{is_job, next_of, owed}

-- all that the models of the devices guarantee; the bytes may be any
pub record SoundDevices (d : Devices) : Type 0 where
  pub pages : SoundPages d.pages
  pub log : SoundLog d.log

module _ {C : Type 0} (m : Meaning C) where
  -- what is reached from a server just made over any devices, by any calls with any outcomes and by making a server again
  pub data ReachedFromAny : World → Type 0 where
    made_over : (d : Devices) → SoundDevices d → ReachedFromAny (record { devices = d; memory = out })
    called : {w v : World} (c : Call) (r : Result (Answer c) Refusal) → ReachedFromAny w → Does m (plan_of m c w) w r v → ReachedFromAny v
    remade : {w : World} (cut a b : Bool) → ReachedFromAny w → ReachedFromAny (record { devices = left_over m cut a b w.devices; memory = out })

  -- Order, by the server's stage

  -- both devices have power, the sizes are legal, and every slot from the first read whole on fits
  pub record ReadsOn (d : Devices) (first : ℕ) : Type 0 where
    pub pages_powered : d.pages.powered ≡ true
    pub log_powered : d.log.powered ≡ true
    pub sizes : sizes_legal d ≡ true
    pub fits : (n : ℕ) → first ≤ n → n ≤ log_length d → is_some (at (whole m d) n) ≡ true

  -- once redo is done, the LRCs of the copies stay in range
  abbrev pub LrcsInRange : Working → Type 0
  LrcsInRange s = (p : ℕ) → (copy_of s.copies p).lrc ≤ 8192

  -- in service also: the log has room for what is owed; an open job's next is a change of the job, or 0; the LRCs of the records stay in range too
  pub record InService (d : Devices) (s : Working) : Type 0 where
    pub reads_on : ReadsOn d s.first
    pub room : owed (log_read m d s) s.jobs ≤ free d
    pub nexts : (j : ℕ) → is_job j s.jobs ≡ true
        → (next_of j s.jobs ≡ 0) ⊎ (is_some (change_of j (at (log_read m d s) (next_of j s.jobs))) ≡ true)
    pub copies : LrcsInRange s
    pub lasts : (p : ℕ) → last_of m d s p ≤ 8192

  abbrev pub InOrder : Devices → Memory → Type 0
  InOrder d out = Unit {0}
  InOrder d (analysed f) = ReadsOn d f.first
  InOrder d (redone s) = ReadsOn d s.first × LrcsInRange s
  InOrder d (serving s) = InService d s

  -- A refused call in service leaves everything as it was, unless power was lost in it. It is not refused for a slot that does not fit. (So none met a full log: that would have taken the server out.)
  pub record AltersNothing (w v : World) (why : Refusal) : Type 0 where
    pub nothing_done : (number_of why ≡ 17) ⊎ (v ≡ w)
    pub readable : number_of why ≡ 15 → ⊥

  abbrev pub RefusedQuietly : World → Type 0
  RefusedQuietly w = (c : ServiceCall) (v : World) (r : Result (Answers c) Refusal) (why : Refusal) → Does m (service_plan m c w) w r v → r ≡ Err why → AltersNothing w v why

  -- After n slots each slot among the operations finds the log not full, and its bytes read back as it at the number that it gets; each page that is
  -- written is in the store
  abbrev pub OperationsFit : ℕ → ℕ → ℕ → List (Op C) → Type 0
  OperationsFit size capacity n [] = Unit {0}
  OperationsFit size capacity n (append s ∷ ops) =
      (n < capacity) × (read_slot m size (suc n) (slot_bytes m s) ≡ Ok s) × OperationsFit size capacity (suc n) ops
  OperationsFit size capacity n (force ∷ ops) = OperationsFit size capacity n ops
  OperationsFit size capacity n (write p page ∷ ops) = (p < size) × OperationsFit size capacity n ops

  -- the operations that a plan comes to where each of its questions is answered yes
  abbrev pub PlanFits : {A : Type 0} → Devices → Plan C A → Type 0
  PlanFits d (asks b why p) = b ≡ true → PlanFits d p
  PlanFits d (insists b why p) = b ≡ true → PlanFits d p
  PlanFits d (powers_on f) = PlanFits (powered_on d) (f (powered_on d))
  PlanFits d (performs ops answer after) = OperationsFit (size d) d.log.capacity (log_length d) ops

  abbrev pub AppendsFit : World → Type 0
  AppendsFit w = (c : Call) → PlanFits w.devices (plan_of m c w)

  pub record Orderly (w : World) : Type 0 where
    pub in_order : InOrder w.devices w.memory
    pub refused_quietly : RefusedQuietly w
    pub appends_fit : AppendsFit w

  -- From any devices, after any calls with any outcomes and any making of servers anew
  abbrev pub AnyDevices : Type 0
  AnyDevices = (w : World) → ReachedFromAny w → Orderly w
