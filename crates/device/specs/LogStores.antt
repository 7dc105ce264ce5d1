-- What a log store means: its model, and what each operation may make of it. Assumes nothing.
use Rattle.std.specs.Prelude.{◌≡◌, ℕ, suc, pred, ◌-◌, ◌^◌, ◌<◌, ◌≤◌, Bool, true, false, List, [], ◌∷◌, ◌++◌, length, take, Ok, Err, Result, slice_index_or}
use Rattle.format.specs.Bytes.{Bytes}
use Rattle.device.specs.declared.log_store.LogFault.{LogFault}
use Rattle.device.specs.declared.log_store.LogFault.TheVariants.{PowerLost, Outside, Full}

-- the slots in the order of their numbers, from 1 on; how many of them are forced, which a loss of power leaves; whether there is power
pub record LogModel : Type 0 where
  pub capacity : ℕ
  pub slots : List (List ℕ)
  pub forced : ℕ
  pub powered : Bool

pub record SoundLog (m : LogModel) : Type 0 where
  pub held : m.forced ≤ length m.slots
  pub room : length m.slots ≤ m.capacity
  pub numbers : m.capacity < 2 ^ 32 - 1
  pub each : (i : ℕ) → i < length m.slots → Bytes 60 (slice_index_or m.slots i [])

abbrev pub state : LogModel → List (List ℕ) → ℕ → Bool → LogModel
state m slots forced powered = record { capacity = m.capacity; slots = slots; forced = forced; powered = powered }

abbrev pub with_slot : LogModel → List ℕ → List (List ℕ)
with_slot m slot = m.slots ++ slot ∷ []

-- the number of the next slot
abbrev pub new_slot : LogModel → ℕ
new_slot m = suc (length m.slots)

-- power comes back and only the forced slots are there
abbrev pub powered_on : LogModel → LogModel
powered_on m = state m (take m.forced m.slots) m.forced true

-- reading the length or a slot alters nothing
pub data LengthRead (m : LogModel) (r : Result ℕ LogFault) : Type 0 where
  no_power : m.powered ≡ false → r ≡ Err (PowerLost 0) → LengthRead m r
  done : m.powered ≡ true → r ≡ Ok (length m.slots) → LengthRead m r

pub data SlotRead (m : LogModel) (n : ℕ) (r : Result (List ℕ) LogFault) : Type 0 where
  no_power : m.powered ≡ false → r ≡ Err (PowerLost n) → SlotRead m n r
  zeroth : m.powered ≡ true → n ≡ 0 → r ≡ Err Outside → SlotRead m n r
  outside : m.powered ≡ true → length m.slots < n → r ≡ Err Outside → SlotRead m n r
  done : m.powered ≡ true → 0 < n → n ≤ length m.slots → r ≡ Ok (slice_index_or m.slots (pred n) []) → SlotRead m n r

-- An append puts the slot at the end, or is refused exactly where the capacity is reached, or power is lost in it.
-- How far it raises the forced count is left free.
pub data SlotAppended (before : LogModel) (slot : List ℕ) (r : Result (Unit {0}) LogFault) (after : LogModel) : Type 0 where
  no_power : before.powered ≡ false → r ≡ Err (PowerLost (new_slot before)) → after ≡ before → SlotAppended before slot r after
  full : before.powered ≡ true → before.capacity ≤ length before.slots → r ≡ Err Full → after ≡ before → SlotAppended before slot r after
  done : before.powered ≡ true → length before.slots < before.capacity → (forced : ℕ) → before.forced ≤ forced → forced ≤ new_slot before
      → r ≡ Ok tt → after ≡ state before (with_slot before slot) forced true → SlotAppended before slot r after
  lost_before : before.powered ≡ true → length before.slots < before.capacity → (forced : ℕ) → before.forced ≤ forced
      → forced ≤ length before.slots → r ≡ Err (PowerLost (new_slot before)) → after ≡ state before before.slots forced false
      → SlotAppended before slot r after
  lost_after : before.powered ≡ true → length before.slots < before.capacity → (forced : ℕ) → before.forced ≤ forced
      → forced ≤ new_slot before → r ≡ Err (PowerLost (new_slot before)) → after ≡ state before (with_slot before slot) forced false
      → SlotAppended before slot r after

-- a force makes every slot forced, or power is lost in it and the count is anything between
pub data LogForced (before : LogModel) (r : Result (Unit {0}) LogFault) (after : LogModel) : Type 0 where
  no_power : before.powered ≡ false → r ≡ Err (PowerLost (length before.slots)) → after ≡ before → LogForced before r after
  done : before.powered ≡ true → r ≡ Ok tt → after ≡ state before before.slots (length before.slots) true → LogForced before r after
  lost : before.powered ≡ true → (forced : ℕ) → before.forced ≤ forced → forced ≤ length before.slots
      → r ≡ Err (PowerLost (length before.slots)) → after ≡ state before before.slots forced false → LogForced before r after
