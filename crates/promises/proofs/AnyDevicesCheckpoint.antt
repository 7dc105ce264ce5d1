-- Checkpoint over any devices: every slot of it reads back, and it changes nothing that the server goes by.
use Rattle.std.proofs.Common.{◌≡◌, ℕ, suc, ◌+◌, ◌≤◌, Bool, true, false, cond, ◌&&◌, eqb, ltb, List, [], ◌∷◌, ◌++◌, map, length, Some, None, Ok, Option, refl, ◌∙◌, arith}
use Rattle.format.specs.declared.slot.Slot.{Slot}
use Rattle.format.specs.declared.slot.Slot.TheVariants.{Record, Job, Checkpoint}
use Rattle.format.specs.declared.slot.CheckpointPart.TheVariants.{Complete}
use Rattle.format.specs.Bytes.{number_at}
use Rattle.format.specs.Changes.{Meaning, Lawful}
use Rattle.format.specs.Slots.{slot_bytes, read_slot}
use Rattle.recovery_log.specs.Log.{Log, new_number}
use Rattle.rules.specs.declared.refusal.Refusal.TheVariants.{LogFull}
use Rattle.rules.specs.declared.table.JobEntry.{JobEntry}
use Rattle.promises.specs.AnyDevices.{OperationsFit}
use Rattle.rules.specs.Plans.{append, force}
use Rattle.rules.specs.Playing.{or_else, first_lacked}
use Rattle.rules.specs.Restart.{whole}
use Rattle.rules.specs.Service.{log_read, has_room, page_entry, page_entries, job_entries, checkpoint_slots, checkpoint_in}
use Rattle.rules.specs.State.{Devices, Working, serving, size, log_length, next_slot}
use Rattle.rules.specs.Tables.{Jobs, owed}
use Rattle.promises.proofs.AnyDevicesPlans.{Base, pushed, Runs}
use Rattle.promises.proofs.AnyDevicesService.{Calm, ask, Serves, free_room, read_length, few, runs}
use Rattle.promises.proofs.AnyDevicesSlots.{Each, begin_reads, dirty_reads, job_reads, complete_reads}
use Rattle.promises.proofs.AnyDevicesStages.{All, Low, Table, Serving, Fine}
use Rattle.promises.proofs.AnyDevicesTables.{owed_more, stack_low, table_more}
use Rattle.promises.proofs.Decoded.{whole_length}
use Rattle.promises.proofs.JobTables.{find_in}
use Rattle.promises.proofs.Membership.{In, here, there}

all_in : {A : Type 0} (P : A → Type 0) (xs : List A) → ((x : A) → In x xs → P x) → All P xs
all_in P [] f = tt
all_in P (x ∷ xs) f = (f x (here refl), all_in P xs (λ y i. f y (there i)))

module _ {C : Type 0} where
  first_lacked_inside : (p lrc n : ℕ) (L : Log C) → first_lacked p lrc L ≡ Some n → (1 ≤ n) × (n ≤ length L)
  first_lacked_inside p lrc n [] e = let z : ◌≡◌ {A = ℕ} 0 1 = cc in absurd (omega arith)
  first_lacked_inside p lrc n (None ∷ L) e = let k = first_lacked_inside p lrc n L e in (k.0, omega arith)
  first_lacked_inside p lrc n (Some (Record r) ∷ L) e = go (first_lacked p lrc L) refl (eqb r.page p && ltb lrc r.lrc) e (first_lacked_inside p lrc n L)
    where
      go : (o : Option ℕ) → first_lacked p lrc L ≡ o → (b : Bool) → or_else o (cond b (Some (new_number L)) None) ≡ Some n
          → (first_lacked p lrc L ≡ Some n → (1 ≤ n) × (n ≤ length L)) → (1 ≤ n) × (n ≤ suc (length L))
      go None q true e ih = let same : new_number L ≡ n = cc in (omega arith, omega arith)
      go None q false e ih = let z : ◌≡◌ {A = ℕ} 0 1 = cc in absurd (omega arith)
      go (Some k) q b e ih = let l = ih (q ∙ e) in (l.0, omega arith)
  first_lacked_inside p lrc n (Some (Job e j) ∷ L) q = let k = first_lacked_inside p lrc n L q in (k.0, omega arith)
  first_lacked_inside p lrc n (Some (Checkpoint c) ∷ L) q = let k = first_lacked_inside p lrc n L q in (k.0, omega arith)

module _ {C : Type 0} (m : Meaning C) (size : ℕ) where
  -- parts of a checkpoint that read back, after n slots
  abbrev Marks : ℕ → List (Slot C) → Type 0
  Marks n [] = Unit {0}
  Marks n (Record r ∷ ss) = ⊥
  Marks n (Job e j ∷ ss) = ⊥
  Marks n (Checkpoint c ∷ ss) = (read_slot m size (suc n) (slot_bytes m (Checkpoint c)) ≡ Ok (Checkpoint c)) × Marks (suc n) ss

  -- What they make of the log

  abbrev made : List (Slot C) → Log C → Log C
  made ss L = pushed (map append ss ++ force ∷ []) L

  marks_fit : (capacity n : ℕ) (ss : List (Slot C)) → Marks n ss → n + length ss ≤ capacity → OperationsFit m size capacity n (map append ss ++ force ∷ [])
  marks_fit capacity n [] h le = tt
  marks_fit capacity n (Record r ∷ ss) h le = absurd h
  marks_fit capacity n (Job e j ∷ ss) h le = absurd h
  marks_fit capacity n (Checkpoint c ∷ ss) h le = (omega arith, h.0, marks_fit capacity (suc n) ss h.1 (omega arith))

  marks_length : (n : ℕ) (ss : List (Slot C)) (L : Log C) → Marks n ss → length (made ss L) ≡ length L + length ss
  marks_length n [] L h = omega arith
  marks_length n (Record r ∷ ss) L h = absurd h
  marks_length n (Job e j ∷ ss) L h = absurd h
  marks_length n (Checkpoint c ∷ ss) L h = let k = marks_length (suc n) ss (Some (Checkpoint c) ∷ L) h.1 in omega arith

  marks_low : (first n : ℕ) (ss : List (Slot C)) (L : Log C) → Marks n ss → Each (Low first) L → Each (Low first) (made ss L)
  marks_low first n [] L h k = k
  marks_low first n (Record r ∷ ss) L h k = absurd h
  marks_low first n (Job e j ∷ ss) L h k = absurd h
  marks_low first n (Checkpoint c ∷ ss) L h k = marks_low first (suc n) ss (Some (Checkpoint c) ∷ L) h.1 (tt, k)

  marks_table : (n : ℕ) (ss : List (Slot C)) (L : Log C) (t : Jobs) → Marks n ss → Table L t → Table (made ss L) t
  marks_table n [] L t h k = k
  marks_table n (Record r ∷ ss) L t h k = absurd h
  marks_table n (Job e j ∷ ss) L t h k = absurd h
  marks_table n (Checkpoint c ∷ ss) L t h k = marks_table (suc n) ss (Some (Checkpoint c) ∷ L) t h.1 (table_more (Some (Checkpoint c)) L t (λ j. refl) k)

  marks_owed : (n : ℕ) (ss : List (Slot C)) (L : Log C) (t : Jobs) → Marks n ss → owed (made ss L) t ≡ owed L t
  marks_owed n [] L t h = refl
  marks_owed n (Record r ∷ ss) L t h = absurd h
  marks_owed n (Job e j ∷ ss) L t h = absurd h
  marks_owed n (Checkpoint c ∷ ss) L t h = marks_owed (suc n) ss (Some (Checkpoint c) ∷ L) t h.1 ∙ owed_more (Some (Checkpoint c)) L t (λ j. refl)

  -- The parts

  module _ (law : Lawful m) (rest : List (Slot C)) where
    page_marks : (L : Log C) (p n : ℕ) (bs : List (List ℕ)) → length L ≤ n → p + length bs ≤ size → n + length (page_entries m L p bs ++ rest) ≤ 4096
        → ((k : ℕ) → n ≤ k → k + length rest ≤ 4096 → Marks k rest) → Marks n (page_entries m L p bs ++ rest)
    page_marks L p n [] low pages room more = more n (omega arith) room
    page_marks L p n (b ∷ bs) low pages room more = go (first_lacked p (number_at b 0) L) refl room (λ k le small. page_marks L (suc p) k bs (omega arith) (omega arith) small (λ i ge. more i (omega arith)))
      where
        go : (o : Option ℕ) → first_lacked p (number_at b 0) L ≡ o → n + length ((page_entry m p o ++ page_entries m L (suc p) bs) ++ rest) ≤ 4096
            → ((k : ℕ) → n ≤ k → k + length (page_entries m L (suc p) bs ++ rest) ≤ 4096 → Marks k (page_entries m L (suc p) bs ++ rest))
            → Marks n ((page_entry m p o ++ page_entries m L (suc p) bs) ++ rest)
        go None q small ih = ih n (omega arith) small
        go (Some start) q small ih =
            let inside = first_lacked_inside p (number_at b 0) start L q in
            let one = inside.0 in
            let most = inside.1 in
            (dirty_reads m law size (suc n) (omega arith) p start (omega arith) one (omega arith), ih (suc n) (omega arith) (omega arith))

    job_marks : (N n : ℕ) (t : Jobs) → N ≤ n → All (λ x. (1 ≤ x.job) × (x.job ≤ N) × (x.next ≤ N)) t → n + length (job_entries m t ++ rest) ≤ 4096
        → ((k : ℕ) → n ≤ k → k + length rest ≤ 4096 → Marks k rest) → Marks n (job_entries m t ++ rest)
    job_marks N n [] low h room more = more n (omega arith) room
    job_marks N n (x ∷ xs) low h room more =
        let one = h.0.0 in
        let most = h.0.1 in
        let next = h.0.2 in (
          job_reads m law size (suc n) (omega arith) x.job x.next one (omega arith) (omega arith),
          job_marks N (suc n) xs (omega arith) h.1 (omega arith) (λ k ge. more k (omega arith)),
        )

module _ {C : Type 0} (m : Meaning C) (law : Lawful m) (d : Devices) (base : Base d) (s : Working) (h : Serving m d s) where
  entries : All (λ x. (1 ≤ x.job) × (x.job ≤ log_length d) × (x.next ≤ log_length d)) s.jobs
  entries = all_in (λ x. (1 ≤ x.job) × (x.job ≤ log_length d) × (x.next ≤ log_length d)) s.jobs each
    where
      each : (x : JobEntry) → In x s.jobs → (1 ≤ x.job) × (x.job ≤ log_length d) × (x.next ≤ log_length d)
      each x i =
          let stacked = h.table.each x.job x (find_in x s.jobs h.table.ascending i) in
          let one = stacked.named.0 in
          let most = stacked.named.1 in
          let next = stack_low (log_read m d s) x.job x.next _ stacked.stack in
          let long = read_length m law d base s h in
          (one, omega arith, omega arith)

  marks : log_length d + length (checkpoint_slots m d s) ≤ 4096 → Marks m (size d) (log_length d) (checkpoint_slots m d s)
  marks room =
      let long = read_length m law d base s h in
      let last : (k : ℕ) → suc (log_length d) ≤ k → k + 1 ≤ 4096 → Marks m (size d) k (Checkpoint (Complete (next_slot d)) ∷ [])
      = λ k ge le. (complete_reads m law (size d) (suc k) (omega arith) (next_slot d) (omega arith) (omega arith), tt) in
      let tail : List (Slot C) = job_entries m s.jobs ++ Checkpoint (Complete (next_slot d)) ∷ [] in
      let jobs : (k : ℕ) → suc (log_length d) ≤ k → k + length tail ≤ 4096 → Marks m (size d) k tail
      = λ k ge le. job_marks m (size d) law (Checkpoint (Complete (next_slot d)) ∷ []) (log_length d) k s.jobs (omega arith) entries le (λ i more small. last i (omega arith) small) in (
        begin_reads m law (size d) (suc (log_length d)) (omega arith),
        page_marks m (size d) law tail (log_read m d s) 0 (suc (log_length d)) d.pages.pages (omega arith) (omega arith) (omega arith) jobs,
      )

  pub take_checkpoint : Serves m (record { devices = d; memory = serving s }) (checkpoint_in m d s)
  take_checkpoint = ask LogFull refl go
    where
      go : has_room m d s (length (checkpoint_slots m d s)) ≡ true → Runs m (Fine m) Calm ⊥ d (map append (checkpoint_slots m d s) ++ force ∷ [])
          (Ok (log_length d + length (checkpoint_slots m d s))) (serving s)
      go e =
          let ss = checkpoint_slots m d s in
          let L = log_read m d s in
          let room = free_room m law d base s h (length ss) e in
          let most = few m law d base s h in
          let k = marks (omega arith) in
          let long = marks_length m (size d) (log_length d) ss (whole m d) k in
          let n = whole_length m d in
          let owes = marks_owed m (size d) (log_length d) ss L s.jobs k in
          runs m law d base s h (map append ss ++ force ∷ []) (log_length d + length ss) s.copies s.jobs
          (marks_fit m (size d) d.log.capacity (log_length d) ss k (omega arith))
          (marks_low m (size d) s.first (log_length d) ss (whole m d) k h.low) (λ p. let c = h.copies p in omega arith)
          (marks_table m (size d) (log_length d) ss L s.jobs k h.table) (omega arith)
