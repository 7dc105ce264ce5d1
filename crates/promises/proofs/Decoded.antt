-- What the bytes of a log say: of a log with one more slot, of a log that lost its newest slots, of the devices after an append or a force,
-- and where the search for the last end of a checkpoint ends. Assumes nothing.
use Rattle.std.proofs.Common.{◌≡◌, ℕ, zero, suc, ◌+◌, ◌<◌, ◌≤◌, Bool, true, false, cond, eqb, ltb, ◌⊎◌, List, [], ◌∷◌, ◌++◌, length, get_or, take, is_some, is_ok, Some, None, Ok, Err, Option, Result, sym, refl, ap, ◌∙◌, subst, inl, inr, arith, length-append}
use Rattle.std.specs.Result.{result_ok}
use Rattle.std.proofs.lemmas.Bool.{eqb-true, eq-eqb, ne_eqb, lt-leb, le-ltb, cond_both}
use Rattle.std.proofs.lemmas.Bool.Decides.{nat_tests}
use Rattle.format.specs.declared.slot.Slot.{Slot}
use Rattle.format.specs.declared.slot.Slot.TheVariants.{Checkpoint}
use Rattle.format.specs.declared.slot.kind.SlotKind.{SlotKind}
use Rattle.format.specs.declared.slot.kind.SlotKind.TheVariants.{CheckpointEnd}
use Rattle.format.specs.declared.slot.CheckpointPart.TheVariants.{Complete}
use Rattle.format.specs.declared.slot.Misfit.{Misfit}
use Rattle.format.specs.Bytes.{number_at}
use Rattle.format.specs.Changes.{Meaning}
use Rattle.format.specs.Slots.{kind_numbered, read_slot, fields_of, slot_by}
use Rattle.format.proofs.Encoding.{Read, reads}
use Rattle.device.specs.declared.log_store.LogFault.{LogFault}
use Rattle.device.specs.declared.log_store.LogFault.TheVariants.{PowerLost, Full}
use Rattle.device.specs.LogStores.{LogModel, SlotAppended, LogForced, state}
use Rattle.recovery_log.specs.Log.{Log, new_number}
use Rattle.rules.specs.Reading.{slot_at, read_on, known, at, up_to, last_end, last_end_from}
use Rattle.rules.specs.State.{Devices, size, log_length}
use Rattle.rules.specs.Plans.{with_log, powered_on}
use Rattle.rules.specs.Restart.{whole}
use Rattle.promises.proofs.Cuts.{up_to_all}
use Rattle.promises.proofs.Legal.{Legal, masked}

-- Slots by their numbers, and cuts

module _ {C : Type 0} where
  pub up_to_more : (n : ℕ) (x : Option (Slot C)) (L : Log C) → n ≤ length L → up_to n (x ∷ L) ≡ up_to n L
  up_to_more n x L h = rw (lt-leb (suc (length L)) n (omega arith))

  pub at_more : (n : ℕ) (x : Option (Slot C)) (L : Log C) → n ≤ length L → at (x ∷ L) n ≡ at L n
  at_more n x L h = rw (ne_eqb n (suc (length L)) (λ e. omega arith))

  pub length_masked : (first : ℕ) (L : Log C) → length (masked first L) ≡ length L
  length_masked first [] = refl
  length_masked first (x ∷ L) = ap suc (length_masked first L)

  pub at_above : (n : ℕ) (L : Log C) → length L < n → at L n ≡ None
  at_above n [] h = refl
  at_above n (x ∷ L) h = rw (ne_eqb n (suc (length L)) (λ e. omega arith)) (at_above n L (omega arith))

  pub at_zero : (L : Log C) → at L 0 ≡ None
  at_zero [] = refl
  at_zero (x ∷ L) = rw (ne_eqb 0 (suc (length L)) (λ e. omega arith)) (at_zero L)

  -- a legal log has no slot that does not fit
  pub legal_some : (size capacity : ℕ) (L : Log C) → Legal size capacity L → (n : ℕ) → 1 ≤ n → n ≤ length L → is_some (at L n) ≡ true
  legal_some size capacity [] h n one le = absurd (omega arith)
  legal_some size capacity (None ∷ L) h n one le = absurd h.1
  legal_some size capacity (Some s ∷ L) h n one le = go (eqb n (new_number L)) refl (legal_some size capacity L h.0 n one)
    where
      go : (t : Bool) → eqb n (new_number L) ≡ t → (n ≤ length L → is_some (at L n) ≡ true) → is_some (cond t (Some s) (at L n)) ≡ true
      go true e more = refl
      go false e more = more (grind (arith, nat_tests))

-- the search ends inside the log
last_end_below : (n found : ℕ) (bs : List (List ℕ)) → found < n → last_end_from n found bs < n + length bs
last_end_below n found [] h = omega arith
last_end_below n found (b ∷ bs) h =
    let t = eqb (get_or b 0 0) 9 in
    let k = last_end_below (suc n) (cond t n found) bs (cond_both t n found (λ (x : ℕ). x < suc n) (λ e. omega arith) (λ e. omega arith)) in
    omega arith

pub last_end_inside : (bs : List (List ℕ)) → last_end bs ≤ length bs
last_end_inside bs = omega (arith, last_end_below 1 0 bs (omega arith))

-- Power that comes back leaves the forced slots

-- Bytes as slots

module _ {C : Type 0} (m : Meaning C) where
  -- no slot stands before slot 1
  pub slot_first : (size n : ℕ) (b : List ℕ) → slot_at m size 1 (suc n) b ≡ result_ok (read_slot m size (suc n) b)
  slot_first size n b = rw (le-ltb (suc n) 1 (omega arith))

  module _ (size first : ℕ) where
    read_on_append : (L : Log C) (bs : List (List ℕ)) (b : List ℕ)
        → read_on m size first L (bs ++ b ∷ []) ≡ slot_at m size first (new_number (read_on m size first L bs)) b ∷ read_on m size first L bs
    read_on_append L [] b = refl
    read_on_append L (c ∷ bs) b = read_on_append (slot_at m size first (new_number L) c ∷ L) bs b

    read_on_length : (L : Log C) (bs : List (List ℕ)) → length (read_on m size first L bs) ≡ length L + length bs
    read_on_length L [] = omega arith
    read_on_length L (b ∷ bs) = let k = read_on_length (slot_at m size first (new_number L) b ∷ L) bs in omega arith

    -- what is read later leaves the older slots
    read_on_cut : (n : ℕ) (L : Log C) (bs : List (List ℕ)) → n ≤ length L → up_to n (read_on m size first L bs) ≡ up_to n L
    read_on_cut n L [] h = refl
    read_on_cut n L (b ∷ bs) h =
        let x = slot_at m size first (new_number L) b in
        read_on_cut n (x ∷ L) bs (omega arith) ∙ up_to_more n x L h

    read_on_at : (n : ℕ) (L : Log C) (bs : List (List ℕ)) → n ≤ length L → at (read_on m size first L bs) n ≡ at L n
    read_on_at n L [] h = refl
    read_on_at n L (b ∷ bs) h =
        let x = slot_at m size first (new_number L) b in
        read_on_at n (x ∷ L) bs (omega arith) ∙ at_more n x L h

    read_on_take : (k n : ℕ) (L : Log C) (bs : List (List ℕ)) → n ≡ length L + k
        → read_on m size first L (take k bs) ≡ up_to n (read_on m size first L bs)
    read_on_take zero n L bs e = sym (read_on_cut n L bs (omega arith) ∙ up_to_all n L (omega arith))
    read_on_take (suc k) n L [] e = sym (up_to_all n L (omega arith))
    read_on_take (suc k) n L (b ∷ bs) e = read_on_take k n (slot_at m size first (new_number L) b ∷ L) bs (omega arith)

    pub known_length : (bs : List (List ℕ)) → length (known m size first bs) ≡ length bs
    known_length bs = let k = read_on_length [] bs in omega arith

    pub known_append : (bs : List (List ℕ)) (b : List ℕ)
        → known m size first (bs ++ b ∷ []) ≡ slot_at m size first (suc (length bs)) b ∷ known m size first bs
    known_append bs b = read_on_append [] bs b ∙ ap (λ (n : ℕ). slot_at m size first (suc n) b ∷ known m size first bs) (known_length bs)

    pub known_take : (n : ℕ) (bs : List (List ℕ)) → known m size first (take n bs) ≡ up_to n (known m size first bs)
    known_take n bs = read_on_take n n [] bs (omega arith)

    -- a slot before the first that is read says nothing
    read_on_masked : (L : Log C) (bs : List (List ℕ)) → read_on m size first (masked first L) bs ≡ masked first (read_on m size 1 L bs)
    read_on_masked L [] = refl
    read_on_masked L (b ∷ bs) =
        let x = slot_at m size 1 (new_number L) b in
        let seen : x ≡ result_ok (read_slot m size (new_number L) b) = slot_first size (length L) b in
        let same : slot_at m size first (new_number (masked first L)) b ≡ cond (ltb (new_number L) first) None x
        = ap (λ (n : ℕ). slot_at m size first (suc n) b) (length_masked first L)
        ∙ ap (λ (y : Option (Slot C)). cond (ltb (new_number L) first) None y) (sym seen) in
        ap (λ (y : Option (Slot C)). read_on m size first (y ∷ masked first L) bs) same ∙ read_on_masked (x ∷ L) bs

    pub known_masked : (bs : List (List ℕ)) → known m size first bs ≡ masked first (known m size 1 bs)
    known_masked bs = read_on_masked [] bs

  -- The devices

  pub whole_length : (d : Devices) → length (whole m d) ≡ log_length d
  whole_length d = known_length (size d) 1 d.log.slots

  pub whole_powered_on : (d : Devices) → whole m (powered_on d) ≡ up_to d.log.forced (whole m d)
  whole_powered_on d = known_take (size d) 1 d.log.forced d.log.slots

  -- an append puts its slot, whether it says so or loses power
  pub record SlotPut (d : Devices) (b : List ℕ) (r : Result (Unit {0}) LogFault) (l : LogModel) : Type 0 where
    pub grown : whole m (with_log d l) ≡ result_ok (read_slot m (size d) (suc (log_length d)) b) ∷ whole m d
    pub slots_are : l.slots ≡ d.log.slots ++ b ∷ []
    pub length_is : length l.slots ≡ suc (log_length d)
    pub raised : d.log.forced ≤ l.forced
    pub held : l.forced ≤ suc (log_length d)
    pub room : log_length d < d.log.capacity
    pub capacity_same : l.capacity ≡ d.log.capacity
    pub power : d.log.powered ≡ true
    pub answer : ((r ≡ Ok tt) × (l.powered ≡ true)) ⊎ ((r ≡ Err (PowerLost (suc (log_length d)))) × (l.powered ≡ false))

  -- or puts nothing: the log is full, or has or gets no power
  pub record SlotKept (d : Devices) (b : List ℕ) (r : Result (Unit {0}) LogFault) (l : LogModel) : Type 0 where
    pub same : whole m (with_log d l) ≡ whole m d
    pub slots_same : l.slots ≡ d.log.slots
    pub raised : d.log.forced ≤ l.forced
    pub held : d.log.forced ≤ log_length d → l.forced ≤ log_length d
    pub capacity_same : l.capacity ≡ d.log.capacity
    pub refused : is_ok r ≡ false
    pub answer : ((r ≡ Err Full) × (d.log.capacity ≤ log_length d) × (l ≡ d.log) × (l.powered ≡ true))
        ⊎ ((r ≡ Err (PowerLost (suc (log_length d)))) × (l.powered ≡ false))

  pub data AppendOutcome (d : Devices) (b : List ℕ) (r : Result (Unit {0}) LogFault) (l : LogModel) : Type 0 where
    put : SlotPut d b r l → AppendOutcome d b r l
    kept : SlotKept d b r l → AppendOutcome d b r l

  module _ (d : Devices) (b : List ℕ) (r : Result (Unit {0}) LogFault) where
    whole_put : known m (size d) 1 (d.log.slots ++ b ∷ []) ≡ result_ok (read_slot m (size d) (suc (log_length d)) b) ∷ whole m d
    whole_put = known_append (size d) 1 d.log.slots b ∙ ap (λ (x : Option (Slot C)). x ∷ whole m d) (slot_first (size d) (log_length d) b)

    puts : (f : ℕ) (t : Bool) → d.log.powered ≡ true → log_length d < d.log.capacity → d.log.forced ≤ f → f ≤ suc (log_length d)
        → ((r ≡ Ok tt) × (t ≡ true)) ⊎ ((r ≡ Err (PowerLost (suc (log_length d)))) × (t ≡ false))
        → SlotPut d b r (state d.log (d.log.slots ++ b ∷ []) f t)
    puts f t e c lo hi answer = record {
      grown = whole_put;
      slots_are = refl;
      length_is = rw length-append (omega arith);
      raised = lo;
      held = hi;
      room = c;
      capacity_same = refl;
      power = e;
      answer = answer;
    }

    keeps : (f : ℕ) (t : Bool) → let l = state d.log d.log.slots f t in
        d.log.forced ≤ f → (d.log.forced ≤ log_length d → f ≤ log_length d) → is_ok r ≡ false
        → ((r ≡ Err Full) × (d.log.capacity ≤ log_length d) × (l ≡ d.log) × (t ≡ true)) ⊎ ((r ≡ Err (PowerLost (suc (log_length d)))) × (t ≡ false))
        → SlotKept d b r l
    keeps f t lo hi failed answer = record {
      same = refl;
      slots_same = refl;
      raised = lo;
      held = hi;
      capacity_same = refl;
      refused = failed;
      answer = answer;
    }

    pub appended_whole : (l : LogModel) → SlotAppended d.log b r l → AppendOutcome d b r l
    appended_whole l (SlotAppended.no_power e q a) = kept (subst (SlotKept d b r) (sym a)
        (keeps d.log.forced d.log.powered (omega arith) (λ h. h) (ap is_ok q) (inr (q, e))))
    appended_whole l (SlotAppended.full e c q a) = kept (subst (SlotKept d b r) (sym a)
        (keeps d.log.forced d.log.powered (omega arith) (λ h. h) (ap is_ok q) (inl (q, c, refl, e))))
    appended_whole l (SlotAppended.done e c f lo hi q a) = put (subst (SlotPut d b r) (sym a) (puts f true e c lo hi (inl (q, refl))))
    appended_whole l (SlotAppended.lost_before e c f lo hi q a) = kept (subst (SlotKept d b r) (sym a)
        (keeps f false lo (λ h. hi) (ap is_ok q) (inr (q, refl))))
    appended_whole l (SlotAppended.lost_after e c f lo hi q a) = put (subst (SlotPut d b r) (sym a) (puts f false e c lo hi (inr (q, refl))))

  -- a force leaves the slots
  pub record ForceOutcome (d : Devices) (r : Result (Unit {0}) LogFault) (l : LogModel) : Type 0 where
    pub same : whole m (with_log d l) ≡ whole m d
    pub slots_same : l.slots ≡ d.log.slots
    pub raised : d.log.forced ≤ log_length d → d.log.forced ≤ l.forced
    pub held : d.log.forced ≤ log_length d → l.forced ≤ log_length d
    pub capacity_same : l.capacity ≡ d.log.capacity
    pub answer : ((r ≡ Ok tt) × (l.forced ≡ log_length d) × (l.powered ≡ true)) ⊎ ((r ≡ Err (PowerLost (log_length d))) × (l.powered ≡ false))

  module _ (d : Devices) (r : Result (Unit {0}) LogFault) where
    forces : (f : ℕ) (t : Bool) → (d.log.forced ≤ log_length d → d.log.forced ≤ f) → (d.log.forced ≤ log_length d → f ≤ log_length d)
        → ((r ≡ Ok tt) × (f ≡ log_length d) × (t ≡ true)) ⊎ ((r ≡ Err (PowerLost (log_length d))) × (t ≡ false))
        → ForceOutcome d r (state d.log d.log.slots f t)
    forces f t lo hi answer = record {
      same = refl;
      slots_same = refl;
      raised = lo;
      held = hi;
      capacity_same = refl;
      answer = answer;
    }

    pub forced_whole : (l : LogModel) → LogForced d.log r l → ForceOutcome d r l
    forced_whole l (LogForced.no_power e q a) = subst (ForceOutcome d r) (sym a)
        (forces d.log.forced d.log.powered (λ h. omega arith) (λ h. h) (inr (q, e)))
    forced_whole l (LogForced.done e q a) = subst (ForceOutcome d r) (sym a) (forces (log_length d) true (λ h. h) (λ h. omega arith) (inl (q, refl, refl)))
    forced_whole l (LogForced.lost e f lo hi q a) = subst (ForceOutcome d r) (sym a) (forces f false (λ h. lo) (λ h. hi) (inr (q, refl)))

  -- The search for a checkpoint's end

  -- what bytes are read as is what was found in them
  said : (size n : ℕ) (b : List ℕ) (s : Slot C) → result_ok (read_slot m size n b) ≡ Some s → Read m size n b s
  said size n b s e = go (read_slot m size n b) refl
    where
      go : (r : Result (Slot C) Misfit) → read_slot m size n b ≡ r → Read m size n b s
      go (Ok t) q = reads m size n b s (q ∙ cc (ap result_ok q))
      go (Err why) q = let z : ◌≡◌ {A = ℕ} 0 1 = cc (ap result_ok q) in absurd (omega arith)

  -- bytes of kind 9 that read are an end
  end_read : (size n : ℕ) (b : List ℕ) (x : Option (Slot C)) → get_or b 0 0 ≡ 9 → result_ok (read_slot m size n b) ≡ x → is_some x ≡ true
      → x ≡ Some (Checkpoint (Complete (number_at b 12)))
  end_read size n b None e q h = let z : ◌≡◌ {A = ℕ} 0 1 = cc in absurd (omega arith)
  end_read size n b (Some s) e q h =
      let r = said size n b s q in
      let same : ◌≡◌ {A = Option SlotKind} (Some CheckpointEnd) (Some r.kind) = ap kind_numbered (sym e) ∙ r.kind_is in
      let end : CheckpointEnd ≡ r.kind = cc in
      sym r.slot_is ∙ ap (λ (k : SlotKind). slot_by m (fields_of k b) k) (sym end)

  abbrev EndAt : Log C → ℕ → Type 0
  EndAt L e = (e ≡ 0) ⊎ ((b : ℕ) × (at L e ≡ Some (Checkpoint (Complete b))))

  module _ (size : ℕ) where
    end_step : (L : Log C) (b : List ℕ) (found : ℕ) (t : Bool) → let x = slot_at m size 1 (new_number L) b in
        eqb (get_or b 0 0) 9 ≡ t → is_some x ≡ true → found ≤ length L → EndAt L found → EndAt (x ∷ L) (cond t (new_number L) found)
    end_step L b found true e h le was =
        let x = slot_at m size 1 (new_number L) b in
        let here : at (x ∷ L) (new_number L) ≡ x = rw (eq-eqb (suc (length L)) (suc (length L)) refl) in
        inr (number_at b 12, here ∙ end_read size (new_number L) b x (eqb-true (get_or b 0 0) 9 e) (sym (slot_first size (length L) b)) h)
    end_step L b found false e h le (inl z) = inl z
    end_step L b found false e h le (inr (y, q)) = inr (y, at_more found (slot_at m size 1 (new_number L) b) L le ∙ q)

    search_ends : (L : Log C) (bs : List (List ℕ)) (found : ℕ) → found ≤ length L → EndAt L found
        → ((n : ℕ) → 1 ≤ n → n ≤ length (read_on m size 1 L bs) → is_some (at (read_on m size 1 L bs) n) ≡ true)
        → EndAt (read_on m size 1 L bs) (last_end_from (new_number L) found bs)
    search_ends L [] found le was all = was
    search_ends L (b ∷ bs) found le was all =
        let x = slot_at m size 1 (new_number L) b in
        let n = new_number L in
        let t = eqb (get_or b 0 0) 9 in
        let later = read_on_at size 1 n (x ∷ L) bs (omega arith) in
        let here : at (x ∷ L) n ≡ x = rw (eq-eqb (suc (length L)) (suc (length L)) refl) in
        let some : is_some x ≡ true = sym (ap is_some (later ∙ here)) ∙ all n (omega arith) (omega (arith, read_on_length size 1 (x ∷ L) bs)) in
        search_ends (x ∷ L) bs (cond t n found) (cond_both t n found (λ (k : ℕ). k ≤ suc (length L)) (λ e. omega arith) (λ e. omega arith))
        (end_step L b found t refl some le was) all

    pub last_end_found : (bs : List (List ℕ)) → ((n : ℕ) → 1 ≤ n → n ≤ length bs → is_some (at (known m size 1 bs) n) ≡ true)
        → (last_end bs ≡ 0) ⊎ ((b : ℕ) × (at (known m size 1 bs) (last_end bs) ≡ Some (Checkpoint (Complete b))))
    last_end_found bs all = search_ends [] bs 0 (omega arith) (inl refl) (λ n one le. all n one (omega (arith, known_length size 1 bs)))
