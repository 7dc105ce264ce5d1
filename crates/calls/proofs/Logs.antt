-- The log slot by slot: what a reader or a pass has read so far, one slot more, and the slot of a number. Assumes nothing.
use Rattle.std.proofs.Common.{◌≡◌, ℕ, zero, suc, pred, ◌<◌, ◌≤◌, ◌+◌, Bool, true, false, ltb, [], ◌∷◌, ◌++◌, length, take, None, slice_index_or, take_all, sym, refl, ap, subst, ◌∙◌, arith, cond, eqb}
use Rattle.std.proofs.lemmas.List.{length-take-le, take_more}
use Rattle.std.proofs.lemmas.Bool.{ltb-true, ltb-false, lt-ltb, le-ltb, eqb-true}
use Rattle.std.proofs.lemmas.Bool.Decides.{nat_tests}
use Rattle.format.specs.Changes.{Meaning}
use Rattle.recovery_log.specs.Log.{Log, new_number}
use Rattle.rules.specs.Reading.{known, slot_at, at}
use Rattle.rules.specs.State.{Devices, size, slots, log_length}
use Rattle.promises.proofs.Decoded.{known_append, known_length, at_above, at_zero}
use Rattle.calls.specs.Readers.{slot_of, read_up_to}

module _ {C : Type 0} (m : Meaning C) (d : Devices) (first : ℕ) where
  pub read_length : (n : ℕ) → n ≤ log_length d → length (read_up_to m d first n) ≡ n
  read_length n le = known_length m (size d) first (take n (slots d)) ∙ length-take-le n (slots d) le

  -- one slot more
  read_more : (n : ℕ) → n < log_length d → read_up_to m d first (suc n) ≡ slot_at m (size d) first (suc n) (slice_index_or (slots d) n []) ∷ read_up_to m d first n
  read_more n lt =
      let e : take (suc n) (slots d) ≡ take n (slots d) ++ slice_index_or (slots d) n [] ∷ [] = let k : n + 1 ≡ suc n = omega arith in rw (← k) (take_more (slots d) n [] lt) in
      ap (known m (size d) first) e ∙ (known_append m (size d) first (take n (slots d)) (slice_index_or (slots d) n [])
      ∙ ap (λ k. slot_at m (size d) first (suc k) (slice_index_or (slots d) n []) ∷ read_up_to m d first n) (length-take-le n (slots d) (omega arith)))

  -- a slot from the first on is read
  pub read_more_from : (n : ℕ) → n < log_length d → first ≤ suc n → read_up_to m d first (suc n) ≡ slot_of m d (suc n) ∷ read_up_to m d first n
  read_more_from n lt le = rw (read_more n lt, le-ltb (suc n) first le) refl

  -- a slot before the first is not
  read_more_before : (n : ℕ) → n < log_length d → suc n < first → read_up_to m d first (suc n) ≡ None ∷ read_up_to m d first n
  read_more_before n lt le = rw (read_more n lt, lt-ltb (suc n) first le) refl

  pub read_all : (n : ℕ) → log_length d ≤ n → read_up_to m d first n ≡ known m (size d) first (slots d)
  read_all n le = ap (known m (size d) first) (take_all n (slots d) le)

  -- what is kept by slots that say nothing holds until the first is read
  pub until_first : (P : Log C → Type 0) → ((L : Log C) → P L → P (None ∷ L)) → P [] → (n : ℕ) → n < first → P (read_up_to m d first n)
  until_first P unread start zero lt = start
  until_first P unread start (suc n) lt = go (until_first P unread start n (omega arith)) (ltb n (log_length d)) refl
    where
      go : P (read_up_to m d first n) → (b : Bool) → ltb n (log_length d) ≡ b → P (read_up_to m d first (suc n))
      go p true e = subst P (sym (read_more_before n (ltb-true n (log_length d) e) lt)) (unread (read_up_to m d first n) p)
      go p false e = let le = ltb-false n (log_length d) e in subst P (read_all n le ∙ sym (read_all (suc n) (omega arith))) p

  -- what one slot more makes of what was read
  pub shown : (P Q : Log C → Type 0) (n : ℕ) → 0 < n → first ≤ n → n ≤ log_length d → ((L : Log C) → new_number L ≡ n → P L → Q (slot_of m d n ∷ L)) → P (read_up_to m d first (pred n)) → Q (read_up_to m d first n)
  shown P Q zero one le inside step p = absurd (omega arith)
  shown P Q (suc n) one le inside step p = subst Q (sym (read_more_from n (omega arith) le)) (step (read_up_to m d first n) (ap suc (read_length n (omega arith))) p)

  -- The slots among those from `first` to `last`, by number

  at_up_to : (last n : ℕ) → last ≤ log_length d → n < last → at (read_up_to m d first last) (suc n) ≡ slot_at m (size d) first (suc n) (slice_index_or (slots d) n [])
  at_up_to zero n le lt = absurd (omega arith)
  at_up_to (suc k) n le lt = subst (λ L. at L (suc n) ≡ slot_at m (size d) first (suc n) (slice_index_or (slots d) n [])) (sym (read_more k (omega arith)))
      (go (eqb (suc n) (new_number (read_up_to m d first k))) refl (read_length k (omega arith)) (at_up_to k n (omega arith)))
    where
      go : (b : Bool) → eqb (suc n) (new_number (read_up_to m d first k)) ≡ b → length (read_up_to m d first k) ≡ k
          → (n < k → at (read_up_to m d first k) (suc n) ≡ slot_at m (size d) first (suc n) (slice_index_or (slots d) n []))
          → cond b (slot_at m (size d) first (suc k) (slice_index_or (slots d) k [])) (at (read_up_to m d first k) (suc n)) ≡ slot_at m (size d) first (suc n) (slice_index_or (slots d) n [])
      go true e long ih = let k = eqb-true (suc n) _ e in ap (λ n. slot_at m (size d) first (suc n) (slice_index_or (slots d) n [])) (omega arith)
      go false e long ih = ih (grind (arith, nat_tests))

  pub at_among : (last n : ℕ) → last ≤ log_length d → 0 < n → first ≤ n → n ≤ last → at (read_up_to m d first last) n ≡ slot_of m d n
  at_among last zero le one lo hi = absurd (omega arith)
  at_among last (suc n) le one lo hi = rw (at_up_to last n le hi, le-ltb (suc n) first lo) refl

  pub none_above : (last n : ℕ) → last ≤ log_length d → last < n → at (read_up_to m d first last) n ≡ None
  none_above last n le lt = at_above n (read_up_to m d first last) (let long = read_length last le in omega arith)

  pub none_before : (last n : ℕ) → last ≤ log_length d → n < first → at (read_up_to m d first last) n ≡ None
  none_before last zero le lt = at_zero (read_up_to m d first last)
  none_before last (suc n) le lt = go (ltb n last) refl
    where
      go : (b : Bool) → ltb n last ≡ b → at (read_up_to m d first last) (suc n) ≡ None
      go true e = rw (at_up_to last n le (ltb-true n last e), lt-ltb (suc n) first lt) refl
      go false e = none_above last (suc n) le (let k = ltb-false n last e in omega arith)
