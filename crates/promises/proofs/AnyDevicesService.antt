-- Calls in service over any devices, but for abort and checkpoint: each leaves the server in order.
use Rattle.std.proofs.Common.{◌≡◌, ℕ, suc, ◌+◌, ◌≤◌, Bool, true, false, cond, eqb, ltb, leb, List, [], ◌∷◌, length, set, is_some, Some, None, Ok, Err, Option, Result, unwrap_or, sym, refl, ap, subst, arith}
use Rattle.std.proofs.lemmas.Bool.{eqb-true, eqb-false, leb-true, ltb-true, ltb-false, and_parts, cond_both, false≢true}
use Rattle.format.specs.declared.page.Page.{Page}
use Rattle.format.specs.declared.slot.Slot.{Slot}
use Rattle.format.specs.declared.slot.Slot.TheVariants.{Record, Job, Checkpoint}
use Rattle.format.specs.declared.slot.JobEvent.TheVariants.{Open, Commit}
use Rattle.format.specs.Bytes.{number_at}
use Rattle.format.specs.Changes.{Meaning, Lawful}
use Rattle.format.specs.Pages.{page_of}
use Rattle.recovery_log.specs.Log.{Log, new_number, newest_lrc, pending}
use Rattle.rules.specs.declared.refusal.Refusal.{Refusal}
use Rattle.rules.specs.declared.refusal.Refusal.TheVariants.{NoJobPlace, JobNotOpen, PageOutside, BufferSize, NotHeld, HeldAlready, NotAChange, LrcOutOfOrder, ImageDiffers, CopyIncomplete, LogFull}
use Rattle.promises.specs.AnyDevices.{OperationsFit}
use Rattle.rules.specs.Numbers.{number_of}
use Rattle.rules.specs.Plans.{Op, append, force, write, Plan}
use Rattle.rules.specs.Restart.{whole}
use Rattle.rules.specs.Service.{copy_of, log_read, last_of, follows_last, up_to_last, has_room, in_store, open_in, fetch_in, change_for, recorded, record_in, ship_in, write_out_in, look_in, commit_in}
use Rattle.rules.specs.State.{Devices, Working, serving, World, size, slots, log_length, next_slot, free}
use Rattle.rules.specs.Tables.{Jobs, new_job, entered, is_job, with_next, without_job, with_hold, owed}
use Rattle.promises.proofs.AnyDevicesPlans.{Base, After, pushed, Runs, Safe}
use Rattle.promises.proofs.AnyDevicesRedo.{copy_set}
use Rattle.promises.proofs.AnyDevicesSlots.{Each, known_fits, record_reads, open_reads, closed_reads}
use Rattle.promises.proofs.AnyDevicesStages.{Copies, OfRecord, Low, Table, Serving, Fine, whole_after, length_after, ready_after, sizes_parts}
use Rattle.promises.proofs.AnyDevicesTables.{open_job, owed_hold, owed_entered, owed_without, owed_more, owed_recorded, fresh, table_more, table_hold, table_without, table_entered, table_recorded}
use Rattle.promises.proofs.Decoded.{whole_length, known_length, known_masked, length_masked}
use Rattle.promises.proofs.Legal.{masked}

-- a refusal that leaves everything as it was
abbrev pub Calm : Refusal → Type 0
Calm why = number_of why ≡ 15 → ⊥

-- a question whose refusal is such
pub ask : {b : Bool} {P : Type 0} (why : Refusal) → eqb (number_of why) 15 ≡ false → (b ≡ true → P)
    → (b ≡ false → Calm why) × (b ≡ true → P)
ask why p f = (λ off. eqb-false (number_of why) 15 p, f)

-- LRCs

module _ {C : Type 0} where
  abbrev pub Small : ℕ → Option (Slot C) → Type 0
  Small n x = OfRecord (λ r. r.lrc ≤ 4096 + n) x

  low_masked : (first : ℕ) (L : Log C) → Each (Low first) L → Each Small (masked first L)
  low_masked first [] h = tt
  low_masked first (x ∷ L) h = (rw (length_masked first L) (go (ltb (new_number L) first) refl), low_masked first L h.1)
    where
      seen : (x : Option (Slot C)) → first ≤ new_number L → Low first (new_number L) x → Small (new_number L) x
      seen None le k = tt
      seen (Some (Record r)) le k = k le
      seen (Some (Job e j)) le k = tt
      seen (Some (Checkpoint c)) le k = tt

      go : (b : Bool) → ltb (new_number L) first ≡ b → Small (new_number L) (cond b None x)
      go true e = tt
      go false e = seen x (ltb-false (new_number L) first e) h.0

  -- a page's last LRC is its copy's or that of a record
  last_low : (n k p : ℕ) (L : Log C) → Each Small L → length L ≤ n → k ≤ 4096 + n → unwrap_or (newest_lrc L p) k ≤ 4096 + n
  last_low n k p [] h le low = low
  last_low n k p (None ∷ L) h le low = last_low n k p L h.1 (omega arith) low
  last_low n k p (Some (Record r) ∷ L) h le low =
      let r-low = h.0 in
      cond_both (eqb r.page p) (Some r.lrc) (newest_lrc L p) (λ (o : Option ℕ). unwrap_or o k ≤ 4096 + n) (λ e. omega arith) (λ e. last_low n k p L h.1 (omega arith) low)
  last_low n k p (Some (Job e j) ∷ L) h le low = last_low n k p L h.1 (omega arith) low
  last_low n k p (Some (Checkpoint c) ∷ L) h le low = last_low n k p L h.1 (omega arith) low

module _ {C : Type 0} (m : Meaning C) where
  -- a plan of a call in service
  abbrev pub Serves : {A : Type 0} → World → Plan C A → Type 0
  Serves w p = Safe m (Fine m) Calm ⊥ w p

  module _ (law : Lawful m) (d : Devices) (base : Base d) (s : Working) (h : Serving m d s) where
    -- What all calls share

    pub read_small : Each Small (log_read m d s)
    read_small = subst (Each Small) (sym (known_masked m (size d) s.first (slots d))) (low_masked s.first (whole m d) h.low)

    pub read_length : length (log_read m d s) ≡ log_length d
    read_length = known_length m (size d) s.first (slots d)

    pub few : d.log.capacity ≤ 4096
    few = (sizes_parts d h.ready.sizes).3

    pub last_small : (p : ℕ) → last_of m d s p ≤ 4096 + log_length d
    last_small p = last_low (log_length d) (copy_of s.copies p).lrc p (log_read m d s) read_small (omega (arith, read_length)) (h.copies p)

    served_after : (ops : List (Op C)) (copies : List Page) (jobs : Jobs) → Each (Low s.first) (pushed ops (whole m d)) → Copies (length (pushed ops (whole m d))) copies
        → Table (pushed ops (log_read m d s)) jobs → owed (pushed ops (log_read m d s)) jobs + length (pushed ops (whole m d)) ≤ d.log.capacity
        → (e : Devices) → After m ops d e → Serving m e (record { copies = copies; jobs = jobs; first = s.first })
    served_after ops copies jobs low small table room e x =
        let long = length_after m x in
        let read = x.grown s.first h.ready.until in
        let same = x.capacity_same in
        record {
          ready = ready_after m x s.first h.ready;
          low = rw (whole_after m x) low;
          copies = rw long small;
          table = rw read table;
          room = rw read (omega arith);
        }

    no_refusal : {A : Type 0} (a : A) (why : Refusal) → ◌≡◌ {A = Result A Refusal} (Ok a) (Err why) → ⊥
    no_refusal a why e = let z : ◌≡◌ {A = ℕ} 0 1 = cc in omega arith

    -- operations, with what the server holds after them
    pub runs : {A : Type 0} (ops : List (Op C)) (a : A) (copies : List Page) (jobs : Jobs) → OperationsFit m (size d) d.log.capacity (log_length d) ops
        → Each (Low s.first) (pushed ops (whole m d)) → Copies (length (pushed ops (whole m d))) copies
        → Table (pushed ops (log_read m d s)) jobs → owed (pushed ops (log_read m d s)) jobs + length (pushed ops (whole m d)) ≤ d.log.capacity
        → Runs m (Fine m) Calm ⊥ d ops (Ok a) (serving (record { copies = copies; jobs = jobs; first = s.first }))
    runs ops a copies jobs fit low small table room = record {
      power = h.ready.power;
      fit = fit;
      stage = λ e x. served_after ops copies jobs low small table room e x;
      mild = λ why e. no_refusal a why e;
    }

    -- no operations, or only such as leave the log
    runs_still : {A : Type 0} (ops : List (Op C)) (a : A) (copies : List Page) (jobs : Jobs) → OperationsFit m (size d) d.log.capacity (log_length d) ops
        → ((L : Log C) → pushed ops L ≡ L) → Copies (log_length d) copies → Table (log_read m d s) jobs → owed (log_read m d s) jobs ≡ owed (log_read m d s) s.jobs
        → Runs m (Fine m) Calm ⊥ d ops (Ok a) (serving (record { copies = copies; jobs = jobs; first = s.first }))
    runs_still ops a copies jobs fit still small table same =
        let room = h.room in
        let long = whole_length m d in
        runs ops a copies jobs fit (rw (still (whole m d)) h.low) (rw (still (whole m d), long) small) (rw (still (log_read m d s)) table)
        (rw (still (whole m d), still (log_read m d s)) (omega arith))

    -- The calls

    abbrev pub here : World
    here = record { devices = d; memory = serving s }

    pub free_room : (n : ℕ) → has_room m d s n ≡ true → owed (log_read m d s) s.jobs + n + log_length d ≤ d.log.capacity
    free_room n e = let k = leb-true (owed (log_read m d s) s.jobs + n) (free d) e in let b = base.room in let r = h.room in omega arith

    pub open_new : Serves here (open_in m d s)
    open_new = ask NoJobPlace refl (λ place. ask LogFull refl go)
      where
        go : has_room m d s 2 ≡ true → Runs m (Fine m) Calm ⊥ d (append (Job Open (next_slot d)) ∷ force ∷ []) (Ok (next_slot d))
            (serving (record { copies = s.copies; jobs = entered (new_job (next_slot d) 0) s.jobs; first = s.first }))
        go e =
            let room = free_room 2 e in
            let L = log_read m d s in
            let M = Some (Job Open (next_slot d)) ∷ L in
            let n = read_length in
            let long = whole_length m d in
            let none : pending L (next_slot d) ≡ [] = fresh m law (size d) L (known_fits m law (size d) s.first (slots d)) (next_slot d) (omega arith) in
            let owes = owed_entered M (new_job (next_slot d) 0) s.jobs in
            let same = owed_more (Some (Job Open (next_slot d))) L s.jobs (λ j. refl) in
            let few-now = few in
            let empty : length (pending M (next_slot d)) ≡ 0 = ap length none in
            runs (append (Job Open (next_slot d)) ∷ force ∷ []) (next_slot d) s.copies (entered (new_job (next_slot d) 0) s.jobs)
            (omega arith, open_reads m law (size d) (next_slot d) (omega arith) (next_slot d) refl (omega arith), tt)
            (tt, h.low) (λ p. let k = h.copies p in omega arith)
            (table_entered M L s.jobs (next_slot d) (omega arith) (omega arith) (omega arith) none h.table (table_more (Some (Job Open (next_slot d))) L s.jobs (λ j. refl) h.table))
            (omega arith)

    pub fetch_page : (j p n : ℕ) → Serves here (fetch_in m j p n d s)
    fetch_page j p n =
        ask JobNotOpen refl (λ a. ask PageOutside refl (λ b. ask BufferSize refl (λ c. ask HeldAlready refl (λ f.
        runs_still [] _ s.copies (with_hold j p s.jobs) tt (λ L. refl) h.copies (table_hold (log_read m d s) s.jobs j p h.table)
        (owed_hold (log_read m d s) j p s.jobs)))))

    pub look_at : (p n : ℕ) → Serves here (look_in m p n d s)
    look_at p n = ask PageOutside refl (λ a. ask BufferSize refl (λ b. ask HeldAlready refl (λ c.
        runs_still [] _ s.copies s.jobs tt (λ L. refl) h.copies h.table refl)))

    pub write_page : (p : ℕ) → Serves here (write_out_in m p d s)
    write_page p = ask PageOutside refl (λ a.
        runs_still (force ∷ write p (copy_of s.copies p) ∷ []) tt s.copies s.jobs (ltb-true p (size d) a, tt) (λ L. refl) h.copies h.table refl)

    pub ship_page : (j p : ℕ) (image : List ℕ) → Serves here (ship_in m j p image d s)
    ship_page j p image =
        ask JobNotOpen refl (λ a. ask PageOutside refl (λ b. ask BufferSize refl (λ c. ask NotHeld refl (λ f. ask LrcOutOfOrder refl (λ g.
        ask ImageDiffers refl (λ i. runs_still [] tt (set s.copies p (page_of image)) s.jobs tt (λ L. refl) (shipped g) h.table refl))))))
      where
        shipped : up_to_last m d s p (number_at image 0) ≡ true → Copies (log_length d) (set s.copies p (page_of image))
        shipped g =
            let k = leb-true (number_at image 0) (last_of m d s p) (and_parts (leb (copy_of s.copies p).lrc (number_at image 0)) (leb (number_at image 0) (last_of m d s p)) g).1 in
            let l = last_small p in
            copy_set (λ (c : Page). c.lrc ≤ 4096 + log_length d) s.copies p (page_of image) h.copies (omega arith)

    pub record_change : (j p lrc : ℕ) (bytes : List ℕ) → Serves here (record_in m j p lrc bytes d s)
    record_change j p lrc bytes =
        ask JobNotOpen refl (λ is_open. ask PageOutside refl (λ inside. ask NotHeld refl (λ held. ask NotAChange refl (λ form.
        ask LrcOutOfOrder refl (λ next. ask LogFull refl (λ room. go is_open inside next room (m.reads bytes) form))))))
      where
        go : is_job j s.jobs ≡ true → in_store d p ≡ true → follows_last m d s p lrc ≡ true → has_room m d s 2 ≡ true → (o : Option C) → is_some o ≡ true
            → Serves here (recorded m j p lrc d s o)
        go is_open inside next room None form = absurd (false≢true form)
        go is_open inside next room (Some c) form =
            let r = change_for m j p lrc s c in
            let L = log_read m d s in
            let n = read_length in
            let long = whole_length m d in
            let few-now = few in
            let space = free_room 2 room in
            let last = last_small p in
            let is = eqb-true lrc (suc (last_of m d s p)) next in
            let job = open_job L s.jobs j h.table is_open in
            let owes = owed_recorded L s.jobs r (next_slot d) refl is_open h.table in
            let table : Table (Some (Record r) ∷ L) (with_next j (next_slot d) s.jobs)
            = subst (λ k. Table (Some (Record r) ∷ L) (with_next j (suc k) s.jobs)) n (table_recorded L s.jobs r refl refl h.table) in
            runs (append (Record r) ∷ []) tt s.copies (with_next j (next_slot d) s.jobs)
            (omega arith, record_reads m law (size d) (next_slot d) (omega arith) r (ltb-true p (size d) inside) (omega arith) (omega arith) (omega arith) (omega arith) (omega arith), tt)
            (λ ge. omega arith, h.low) (λ q. let k = h.copies q in omega arith) table (omega arith)

    pub commit_job : (j : ℕ) → Serves here (commit_in m j d s)
    commit_job j = ask JobNotOpen refl (λ is_open. ask CopyIncomplete refl (λ complete. go is_open))
      where
        go : is_job j s.jobs ≡ true → Runs m (Fine m) Calm ⊥ d (append (Job Commit j) ∷ force ∷ []) (Ok (next_slot d))
            (serving (record { copies = s.copies; jobs = without_job j s.jobs; first = s.first }))
        go is_open =
            let L = log_read m d s in
            let M = Some (Job Commit j) ∷ L in
            let n = read_length in
            let long = whole_length m d in
            let few-now = few in
            let room = h.room in
            let job = open_job L s.jobs j h.table is_open in
            let owes = owed_without L j s.jobs h.table.ascending is_open in
            let same = owed_more (Some (Job Commit j)) L (without_job j s.jobs) (λ k. refl) in
            runs (append (Job Commit j) ∷ force ∷ []) (next_slot d) s.copies (without_job j s.jobs)
            (omega arith, closed_reads m law (size d) (next_slot d) (omega arith) Commit j refl (omega arith) (omega arith), tt)
            (tt, h.low) (λ p. let k = h.copies p in omega arith)
            (table_more (Some (Job Commit j)) L (without_job j s.jobs) (λ k. refl) (table_without L s.jobs j h.table)) (omega arith)
