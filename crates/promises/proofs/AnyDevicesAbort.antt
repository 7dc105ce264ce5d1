-- Abort over any devices: it takes back every pending change of its job, with the slots that the log had room for.
use Rattle.std.proofs.Common.{◌≡◌, ℕ, zero, suc, ◌+◌, ◌<◌, ◌≤◌, Bool, true, false, cond, eqb, List, [], ◌∷◌, length, Some, None, Ok, Option, sym, refl, ap, ◌∙◌, subst, arith}
use Rattle.std.proofs.lemmas.Bool.{eqb-true, eqb-false, eq-eqb, ne_eqb, cond_both, cond-true}
use Rattle.format.specs.declared.page.Page.{Page}
use Rattle.format.specs.declared.slot.Slot.{Slot}
use Rattle.format.specs.declared.slot.Slot.TheVariants.{Record, Job, Checkpoint}
use Rattle.format.specs.declared.slot.PageRecord.{PageRecord}
use Rattle.format.specs.declared.slot.Action.TheVariants.{Put}
use Rattle.format.specs.declared.slot.JobEvent.TheVariants.{End}
use Rattle.format.specs.Changes.{Meaning, Lawful}
use Rattle.recovery_log.specs.Log.{Log, Numbered, rest, pending}
use Rattle.rules.specs.declared.refusal.Refusal.{Refusal}
use Rattle.rules.specs.declared.refusal.Refusal.TheVariants.{JobNotOpen}
use Rattle.rules.specs.declared.table.JobEntry.{JobEntry}
use Rattle.promises.specs.AnyDevices.{OperationsFit}
use Rattle.rules.specs.Plans.{append}
use Rattle.rules.specs.Playing.{play, played, of_page}
use Rattle.rules.specs.Reading.{at}
use Rattle.rules.specs.Restart.{whole}
use Rattle.rules.specs.Service.{copy_of, at_held, holds_of, Work, Stopped, change_of, compensation, appends, finished, taken_back, then_back, all_back, aborted, completed, abort_in, log_read}
use Rattle.rules.specs.State.{Devices, Working, serving, size, slots}
use Rattle.rules.specs.Tables.{Jobs, find_job, is_job, next_of, without_job, owed}
use Rattle.promises.proofs.AnyDevicesBack.{onto, pushed_appends, appends_fit, Underway, back_on, end_on}
use Rattle.promises.proofs.AnyDevicesScans.{at_inside, of_more}
use Rattle.promises.proofs.AnyDevicesPlans.{Base, Runs}
use Rattle.promises.proofs.AnyDevicesRedo.{play_low}
use Rattle.promises.proofs.AnyDevicesService.{Calm, ask, Small, Serves, read_small, read_length, few, runs}
use Rattle.promises.proofs.AnyDevicesSlots.{Each, each_at, each_more, Fits, known_fits, record_inside}
use Rattle.promises.proofs.AnyDevicesStages.{Copies, Low, Stack, Table, Serving, Fine}
use Rattle.promises.proofs.AnyDevicesTables.{open_job, owed_without, owed_more, owed_same, stack_more, stacked_more, table_more, table_without}
use Rattle.promises.proofs.Decoded.{whole_length}
use Rattle.promises.proofs.JobTables.{find_without_job, find_in}

-- Copies that are brought up to date

at_held_low : (n : ℕ) (f : ℕ → Page → Page) (hs : List Bool) (cs : List Page) → ((p : ℕ) (c : Page) → c.lrc ≤ n → (f p c).lrc ≤ n) → ((p : ℕ) → (copy_of cs p).lrc ≤ n)
    → (p : ℕ) → (copy_of (at_held f hs cs) p).lrc ≤ n
at_held_low n f [] cs g h p = h p
at_held_low n f (b ∷ hs) [] g h p = h p
at_held_low n f (b ∷ hs) (c ∷ cs) g h zero = cond_both b (f 0 c) c (λ (x : Page). x.lrc ≤ n) (λ e. g 0 c (h 0)) (λ e. h 0)
at_held_low n f (b ∷ hs) (c ∷ cs) g h (suc p) = at_held_low n (λ q. f (suc q)) hs cs (λ q x k. g (suc q) x k) (λ q. h (suc q)) p

module _ {C : Type 0} (m : Meaning C) where
  played_low : (n : ℕ) (wanted : PageRecord C → Bool) (L : Log C) (copy : Page) → Each Small L → length L ≤ n → copy.lrc ≤ 4096 + n
      → (played m wanted L copy).lrc ≤ 4096 + n
  played_low n wanted [] copy h le low = low
  played_low n wanted (None ∷ L) copy h le low = played_low n wanted L copy h.1 (omega arith) low
  played_low n wanted (Some (Record r) ∷ L) copy h le low =
      let ih = played_low n wanted L copy h.1 (omega arith) low in
      let small = h.0 in
      cond_both (wanted r) (play m r (played m wanted L copy)) (played m wanted L copy) (λ (x : Page). x.lrc ≤ 4096 + n)
      (λ e. play_low m (4096 + n) r (played m wanted L copy) (omega arith) ih) (λ e. ih)
  played_low n wanted (Some (Job e j) ∷ L) copy h le low = played_low n wanted L copy h.1 (omega arith) low
  played_low n wanted (Some (Checkpoint c) ∷ L) copy h le low = played_low n wanted L copy h.1 (omega arith) low

module _ {C : Type 0} where
  -- a record of another job than those of the table
  other_job : (L : Log C) (j : ℕ) (t : Jobs) → find_job j t ≡ None → (i : ℕ) (e : JobEntry) → find_job i t ≡ Some e → eqb j i ≡ false
  other_job L j t none i e q = ne_eqb j i (λ same. let k = subst (λ x. find_job x t ≡ None) same none in let z : ◌≡◌ {A = ℕ} 0 1 = cc in absurd (omega arith))

  table_other : (L : Log C) (r : PageRecord C) (t : Jobs) → find_job r.job t ≡ None → Table L t → Table (Some (Record r) ∷ L) t
  table_other L r t none h = record {
    ascending = h.ascending;
    each = λ i e q. stacked_more (Some (Record r)) L i e (rw (other_job L r.job t none i e q) refl) (h.each i e q);
  }

  owed_other : (L : Log C) (r : PageRecord C) (t : Jobs) → find_job r.job t ≡ None → Table L t → owed (Some (Record r) ∷ L) t ≡ owed L t
  owed_other L r t none h = owed_same L (Some (Record r) ∷ L) t
      (λ x i. rw (other_job L r.job t none x.job x (find_in x t h.ascending i)) refl)

  pub change_is : (j : ℕ) (r : PageRecord C) → r.action ≡ Put → r.job ≡ j → change_of j (Some (Record r)) ≡ Some r
  change_is j r p q = rw (p, eq-eqb r.job j q) refl

-- The loop

module _ {C : Type 0} (m : Meaning C) (law : Lawful m) (size capacity : ℕ) (most : capacity ≤ 4096) (first : ℕ) (L : Log C) (j : ℕ) (t : Jobs) (none : find_job j t ≡ None) where
  -- all is taken back, and the table of the other jobs stays
  record Taken (k : Work C) (n : ℕ) (r : Stopped C) : Type 0 where
    finished : r.why ≡ None
    under : Underway m size capacity law first L r.work
    long : length r.work.log ≡ length k.log + n
    table : Table r.work.log t
    owes : owed r.work.log t ≡ owed k.log t

  nothing_left : (k : Work C) (xs : List (Numbered C)) → Underway m size capacity law first L k → Stack k.log j 0 xs → Table k.log t → Taken k (length xs) (finished k)
  nothing_left k [] u s h = record { finished = refl; under = u; long = omega arith; table = h; owes = refl }
  nothing_left k (x ∷ xs) u s h = let z = (at_inside k.log 0 (Record x.record') s.0).0 in absurd (omega arith)

  takes : (fuel n : ℕ) (k : Work C) (xs : List (Numbered C)) → n ≤ fuel → pending k.log j ≡ xs → Underway m size capacity law first L k → Stack k.log j n xs → Table k.log t
      → length k.log + length xs < capacity → Taken k (length xs) (all_back m fuel j n k)
  takes zero n k xs le e u s h room = nothing_left k xs u (subst (λ i. Stack k.log j i xs) (omega arith) s) h
  takes (suc fuel) n k xs le e u s h room = go (eqb n 0) refl xs e s room (λ i v ys low q w z g more. takes fuel i v ys low q w z g more)
    where
      go : (b : Bool) → eqb n 0 ≡ b → (xs : List (Numbered C)) → pending k.log j ≡ xs → Stack k.log j n xs → length k.log + length xs < capacity
          → ((i : ℕ) (v : Work C) (ys : List (Numbered C)) → i ≤ fuel → pending v.log j ≡ ys → Underway m size capacity law first L v → Stack v.log j i ys → Table v.log t
          → length v.log + length ys < capacity → Taken v (length ys) (all_back m fuel j i v))
          → Taken k (length xs) (cond b (finished k) (then_back m (all_back m fuel j) k (change_of j (at k.log n))))
      go true p xs e s room more = nothing_left k xs u (subst (λ i. Stack k.log j i xs) (eqb-true n 0 p) s) h
      go false p [] e s room more = absurd (eqb-false n 0 p s)
      go false p (x ∷ xs) e s room more =
          let r = x.record' in
          let own = s.2 in
          let back = taken_back m r k in
          let c = compensation r (copy_of k.copies r.page) in
          let range = at_inside k.log n (Record r) s.0 in
          let link = (record_inside m size n r (subst (Fits m law size n) s.0 (each_at (Fits m law size) k.log n u.sound range.0 range.1))).link in
          let under = back_on m size capacity law most first L k u (omega arith) n r s.0 in
          let away : find_job c.job t ≡ None = ap (λ i. find_job i t) own ∙ none in
          let popped : pending back.log j ≡ xs = cond-true (eqb c.job j) (rest (pending k.log j)) (pending k.log j) (eq-eqb c.job j own) ∙ ap (λ (ys : List (Numbered C)). rest ys) e in
          let ih = more r.link back xs (omega arith) popped under (stack_more (Some (Record c)) k.log j r.link xs s.3) (table_other k.log c t away h) (omega arith) in
          let done : Taken k (suc (length xs)) (all_back m fuel j r.link back) = record {
            finished = ih.finished;
            under = ih.under;
            long = let l = ih.long in omega arith;
            table = ih.table;
            owes = ih.owes ∙ owed_other k.log c t away h;
          } in
          subst (λ (o : Option (PageRecord C)). Taken k (suc (length xs)) (then_back m (all_back m fuel j) k o)) (sym (ap (change_of j) s.0 ∙ change_is j r s.1 own)) done

-- The plan of abort

module _ {C : Type 0} where
  onto_length : (ss : List (Slot C)) (L M : Log C) → length L ≡ length M → length (onto ss L) ≡ length (onto ss M)
  onto_length [] L M e = e
  onto_length (s ∷ ss) L M e = ap suc (onto_length ss L M e)

  -- what is appended is low on any log of that length
  onto_low : (first : ℕ) (ss : List (Slot C)) (L M : Log C) → length L ≡ length M → Each (Low first) (onto ss L) → Each (Low first) M → Each (Low first) (onto ss M)
  onto_low first [] L M e h k = k
  onto_low first (s ∷ ss) L M e h k = (subst (λ n. Low first (suc n) (Some s)) (onto_length ss L M e) h.0, onto_low first ss L M e h.1 k)

module _ {C : Type 0} (m : Meaning C) (law : Lawful m) (d : Devices) (base : Base d) (s : Working) (h : Serving m d s) where
  abbrev at_first : ℕ → Work C
  at_first j = record { log = log_read m d s; copies = completed m d s j; appended = [] }

  begins : (j : ℕ) → Underway m (size d) d.log.capacity law s.first (log_read m d s) (at_first j)
  begins j = record {
    grown = refl;
    longer = omega arith;
    lands = tt;
    low = each_more Small (Low s.first) (log_read m d s) (λ n x le k. of_more (λ r. r.lrc ≤ 4096 + n) (λ r. s.first ≤ n → r.lrc ≤ 4096 + n) x (λ r low ge. low) k) small;
    sound = known_fits m law (size d) s.first (slots d);
    copies = at_held_low (4096 + length (log_read m d s)) (λ p c. played m (of_page p) (log_read m d s) c) (holds_of j s.jobs) s.copies
        (λ p c low. played_low m (length (log_read m d s)) (of_page p) (log_read m d s) c small (omega arith) low)
        (λ p. let k = h.copies p in omega (arith, read_length m law d base s h));
  }
    where
      small : Each Small (log_read m d s)
      small = read_small m law d base s h

  pub abort_job : (j : ℕ) → Serves m (record { devices = d; memory = serving s }) (abort_in m j d s)
  abort_job j = ask JobNotOpen refl go
    where
      most : d.log.capacity ≤ 4096
      most = few m law d base s h

      back : Stopped C
      back = all_back m (next_of j s.jobs) j (next_of j s.jobs) (at_first j)

      gone : find_job j (without_job j s.jobs) ≡ None
      gone = find_without_job j j s.jobs ∙ cond-true (eqb j j) None (find_job j s.jobs) (eq-eqb j j refl)

      taken : is_job j s.jobs ≡ true
          → Taken m law (size d) d.log.capacity most s.first (log_read m d s) j (without_job j s.jobs) gone (at_first j) (length (pending (log_read m d s) j)) back
      taken is_open =
          let job = open_job (log_read m d s) s.jobs j h.table is_open in
          let owes = owed_without (log_read m d s) j s.jobs h.table.ascending is_open in
          let room = h.room in
          let long = read_length m law d base s h in
          takes m law (size d) d.log.capacity most s.first (log_read m d s) j (without_job j s.jobs) gone (next_of j s.jobs) (next_of j s.jobs) (at_first j)
          (pending (log_read m d s) j) (omega arith) refl (begins j) job.stack
          (table_without (log_read m d s) s.jobs j h.table) (omega arith)

      ends : is_job j s.jobs ≡ true → Runs m (Fine m) Calm ⊥ {A = Unit {0}} d (appends (Job End j ∷ back.work.appended) []) (Ok tt)
          (serving (record { copies = back.work.copies; jobs = without_job j s.jobs; first = s.first }))
      ends is_open =
          let k = taken is_open in
          let L = log_read m d s in
          let M = back.work.log in
          let ss = back.work.appended in
          let job = open_job L s.jobs j h.table is_open in
          let owes = owed_without L j s.jobs h.table.ascending is_open in
          let room = h.room in
          let read = read_length m law d base s h in
          let long = k.long in
          let under = end_on m (size d) d.log.capacity law most s.first L back.work k.under (omega arith) j (omega arith) (omega arith) in
          let grown = k.under.grown in
          let whole_long = whole_length m d in
          let lengths : length (onto ss L) ≡ length (onto ss (whole m d)) = onto_length ss L (whole m d) (omega arith) in
          let same : length M ≡ length (onto ss L) = ap length grown in
          let on-whole = pushed_appends ss (append (Job End j) ∷ []) (whole m d) in
          let on_read = pushed_appends ss (append (Job End j) ∷ []) L in
          let low_read : Each (Low s.first) (onto ss L) = subst (Each (Low s.first)) grown k.under.low in
          let table : Table (Some (Job End j) ∷ onto ss L) (without_job j s.jobs)
          = subst (λ (N : Log C). Table (Some (Job End j) ∷ N) (without_job j s.jobs)) grown (table_more (Some (Job End j)) M (without_job j s.jobs) (λ i. refl) k.table) in
          let now : owed (Some (Job End j) ∷ onto ss L) (without_job j s.jobs) ≡ owed L (without_job j s.jobs)
          = subst (λ (N : Log C). owed (Some (Job End j) ∷ N) (without_job j s.jobs) ≡ owed L (without_job j s.jobs)) grown
          (owed_more (Some (Job End j)) M (without_job j s.jobs) (λ i. refl) ∙ k.owes) in
          runs m law d base s h (appends (Job End j ∷ ss) []) tt back.work.copies (without_job j s.jobs)
          (subst (λ n. OperationsFit m (size d) d.log.capacity n (appends (Job End j ∷ ss) [])) read
          (appends_fit m (size d) d.log.capacity L (Job End j ∷ ss) [] under.lands tt))
          (subst (Each (Low s.first)) (sym on-whole) (tt, onto_low s.first ss L (whole m d) (omega arith) low_read h.low))
          (subst (λ (N : Log C). Copies (length N) back.work.copies) (sym on-whole) (λ p. let c = k.under.copies p in omega arith))
          (subst (λ (N : Log C). Table N (without_job j s.jobs)) (sym on_read) table)
          (rw (on_read, on-whole) (omega arith))

      go : is_job j s.jobs ≡ true → Serves m (record { devices = d; memory = serving s }) (aborted m s j back.work back.why)
      go is_open = subst (λ (o : Option Refusal). Serves m (record { devices = d; memory = serving s }) (aborted m s j back.work o)) (sym (taken is_open).finished) (ends is_open)
