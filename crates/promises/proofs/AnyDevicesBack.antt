-- Slots appended by a machine that takes changes back: while it goes on, each reads back at its number, and LRCs stay low.
use Rattle.std.proofs.Common.{◌≡◌, ℕ, suc, ◌+◌, ◌<◌, ◌≤◌, Bool, true, false, cond, ◌&&◌, eqb, List, [], ◌∷◌, length, Some, None, Ok, Option, refl, ap, subst, arith}
use Rattle.std.proofs.lemmas.Bool.{eqb-true}
use Rattle.format.specs.declared.page.Page.{Page}
use Rattle.format.specs.declared.slot.Slot.{Slot}
use Rattle.format.specs.declared.slot.Slot.TheVariants.{Record, Job, Checkpoint}
use Rattle.format.specs.declared.slot.PageRecord.{PageRecord}
use Rattle.format.specs.declared.slot.Action.{Action}
use Rattle.format.specs.declared.slot.Action.TheVariants.{Put, TakeBack}
use Rattle.format.specs.declared.slot.JobEvent.TheVariants.{End}
use Rattle.format.specs.Changes.{Meaning, Lawful}
use Rattle.format.specs.Slots.{slot_bytes, read_slot}
use Rattle.recovery_log.specs.Log.{Log, new_number}
use Rattle.promises.specs.AnyDevices.{OperationsFit}
use Rattle.rules.specs.Plans.{Op, append}
use Rattle.rules.specs.Playing.{play}
use Rattle.rules.specs.Reading.{at}
use Rattle.rules.specs.Service.{copy_of, Work, lrc_after, puts, change_of, compensation, with_slot, appends, taken_back}
use Rattle.promises.proofs.AnyDevicesScans.{at_inside}
use Rattle.promises.proofs.AnyDevicesPlans.{pushed}
use Rattle.promises.proofs.AnyDevicesRedo.{copy_set, play_low}
use Rattle.promises.proofs.AnyDevicesSlots.{Each, each_at, Fits, read_fits, record_inside, record_reads, closed_reads}
use Rattle.promises.proofs.AnyDevicesStages.{Copies, Low}

module _ {C : Type 0} where
  -- a change is a record that puts
  pub record Changed (j : ℕ) (x : Option (Slot C)) (r : PageRecord C) : Type 0 where
    pub is : x ≡ Some (Record r)
    pub puts : r.action ≡ Put
    pub own : r.job ≡ j

  pub change_found : (j : ℕ) (x : Option (Slot C)) (r : PageRecord C) → change_of j x ≡ Some r → Changed j x r
  change_found j None r e = let z : ◌≡◌ {A = ℕ} 0 1 = cc in absurd (omega arith)
  change_found j (Some (Record c)) r e = go c.action refl (eqb c.job j) refl e
    where
      go : (a : Action) → c.action ≡ a → (b : Bool) → eqb c.job j ≡ b → cond (puts a && b) (Some c) None ≡ Some r → Changed j (Some (Record c)) r
      go Put q true p e = let same : c ≡ r = cc in subst (Changed j (Some (Record c))) same (record { is = refl; puts = q; own = eqb-true c.job j p })
      go Put q false p e = let z : ◌≡◌ {A = ℕ} 0 1 = cc in absurd (omega arith)
      go TakeBack q true p e = let z : ◌≡◌ {A = ℕ} 0 1 = cc in absurd (omega arith)
      go TakeBack q false p e = let z : ◌≡◌ {A = ℕ} 0 1 = cc in absurd (omega arith)
  change_found j (Some (Job e k)) r q = let z : ◌≡◌ {A = ℕ} 0 1 = cc in absurd (omega arith)
  change_found j (Some (Checkpoint c)) r q = let z : ◌≡◌ {A = ℕ} 0 1 = cc in absurd (omega arith)

  -- slots before others, the newest first
  abbrev pub onto : List (Slot C) → Log C → Log C
  onto [] L = L
  onto (s ∷ ss) L = Some s ∷ onto ss L

  pub pushed_appends : (ss : List (Slot C)) (ops : List (Op C)) (L : Log C) → pushed (appends ss ops) L ≡ pushed ops (onto ss L)
  pushed_appends [] ops L = refl
  pushed_appends (s ∷ ss) ops L = pushed_appends ss (append s ∷ ops) L

  module _ (m : Meaning C) (size capacity : ℕ) where
    -- each of the slots finds the log not full and reads back
    abbrev pub Lands : Log C → List (Slot C) → Type 0
    Lands L [] = Unit {0}
    Lands L (s ∷ ss) = (length (onto ss L) < capacity) × (read_slot m size (new_number (onto ss L)) (slot_bytes m s) ≡ Ok s) × Lands L ss

    pub appends_fit : (L : Log C) (ss : List (Slot C)) (ops : List (Op C)) → Lands L ss → OperationsFit m size capacity (length (onto ss L)) ops
        → OperationsFit m size capacity (length L) (appends ss ops)
    appends_fit L [] ops h k = k
    appends_fit L (s ∷ ss) ops h k = appends_fit L ss (append s ∷ ops) h.2 (h.0, h.1, k)

    pub record Underway (law : Lawful m) (first : ℕ) (L : Log C) (k : Work C) : Type 0 where
      pub grown : k.log ≡ onto k.appended L
      pub longer : length L ≤ length k.log
      pub lands : Lands L k.appended
      pub low : Each (Low first) k.log
      pub sound : Each (Fits m law size) k.log
      pub copies : Copies (length k.log) k.copies

    module _ (law : Lawful m) (few : capacity ≤ 4096) (first : ℕ) (L : Log C) (k : Work C) (h : Underway law first L k) (room : length k.log < capacity) where
      -- the compensation of a change that stands in the log
      pub back_on : (n : ℕ) (r : PageRecord C) → at k.log n ≡ Some (Record r) → Underway law first L (taken_back m r k)
      back_on n r e =
          let copy = copy_of k.copies r.page in
          let c = compensation r copy in
          let range = at_inside k.log n (Record r) e in
          let one = range.0 in
          let most = range.1 in
          let inside = record_inside m size n r (subst (Fits m law size n) e (each_at (Fits m law size) k.log n h.sound one most)) in
          let small = h.copies r.page in
          let job_one = inside.job_one in
          let job_low = inside.job_low in
          let link = inside.link in
          let lrc-one : 1 ≤ lrc_after copy.lrc = omega arith in
          let lrc-low : lrc_after copy.lrc ≤ 4096 + suc (length k.log) = omega arith in
          let reads : read_slot m size (new_number k.log) (slot_bytes m (Record c)) ≡ Ok (Record c)
          = record_reads m law size (new_number k.log) (omega arith) c inside.page job_one (omega arith) lrc-one (omega arith) (omega arith) in
          record {
            grown = ap (λ (M : Log C). Some (Record c) ∷ M) h.grown;
            longer = let l = h.longer in omega arith;
            lands = (
              subst (λ (M : Log C). length M < capacity) h.grown room,
              subst (λ (M : Log C). read_slot m size (new_number M) (slot_bytes m (Record c)) ≡ Ok (Record c)) h.grown reads,
              h.lands,
            );
            low = (λ ge. lrc-low, h.low);
            sound = (read_fits m law size (new_number k.log) (slot_bytes m (Record c)) (Record c) reads, h.sound);
            copies = copy_set (λ (x : Page). x.lrc ≤ 4096 + suc (length k.log)) k.copies r.page (play m c copy) (λ p. let l = h.copies p in omega arith)
                (play_low m (4096 + suc (length k.log)) c copy lrc-low (omega arith));
          }

      pub end_on : (j : ℕ) → 1 ≤ j → j ≤ length L → Underway law first L (with_slot (Job End j) k)
      end_on j one le =
          let longer = h.longer in
          let reads = closed_reads m law size (new_number k.log) (omega arith) End j refl one (omega arith) in
          record {
            grown = ap (λ (M : Log C). Some (Job End j) ∷ M) h.grown;
            longer = omega arith;
            lands = (
              subst (λ (M : Log C). length M < capacity) h.grown room,
              subst (λ (M : Log C). read_slot m size (new_number M) (slot_bytes m (Job End j)) ≡ Ok (Job End j)) h.grown reads,
              h.lands,
            );
            low = (tt, h.low);
            sound = (read_fits m law size (new_number k.log) (slot_bytes m (Job End j)) (Job End j) reads, h.sound);
            copies = λ p. let l = h.copies p in omega arith;
          }
