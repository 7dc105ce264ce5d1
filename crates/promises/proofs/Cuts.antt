-- What is left of a log when its newest slots are lost. Assumes nothing.
use Rattle.std.proofs.Common.{◌≡◌, ℕ, suc, ◌≤◌, Bool, true, false, cond, ◌&&◌, eqb, leb, [], ◌∷◌, length, Some, None, refl, arith}
use Rattle.std.proofs.lemmas.Bool.{leb-true, leb-false, le-leb, lt-leb, ne_eqb, or_right}
use Rattle.format.specs.declared.slot.Slot.TheVariants.{Record, Job, Checkpoint}
use Rattle.recovery_log.specs.Log.{Log, commits, is_committed}
use Rattle.rules.specs.Reading.{at, up_to}
use Rattle.promises.proofs.Legal.{Legal, Exclusive, Older, same, more}

module _ {C : Type 0} where
  pub older_up_to : (n : ℕ) (L : Log C) → Older (up_to n L) L
  older_up_to n [] = same
  older_up_to n (x ∷ L) = go (leb (suc (length L)) n) (older_up_to n L)
    where
      go : (t : Bool) → Older (up_to n L) L → Older (cond t (x ∷ L) (up_to n L)) (x ∷ L)
      go true o = same
      go false o = more o

  pub exclusive_older : {M L : Log C} → Older M L → Exclusive L → Exclusive M
  exclusive_older same x = x
  exclusive_older (more o) x = exclusive_older o x.0

  pub exclusive_up_to : (n : ℕ) (L : Log C) → Exclusive L → Exclusive (up_to n L)
  exclusive_up_to n L x = exclusive_older (older_up_to n L) x

  pub length_up_to : (n : ℕ) (L : Log C) → n ≤ length L → length (up_to n L) ≡ n
  length_up_to n [] le = omega arith
  length_up_to n (x ∷ L) le = go (leb (suc (length L)) n) refl (length_up_to n L)
    where
      go : (t : Bool) → leb (suc (length L)) n ≡ t → (n ≤ length L → length (up_to n L) ≡ n) → length (cond t (x ∷ L) (up_to n L)) ≡ n
      go true e ih = omega (arith, leb-true (suc (length L)) n e)
      go false e ih = ih (omega (arith, leb-false (suc (length L)) n e))

  pub up_to_all : (n : ℕ) (L : Log C) → length L ≤ n → up_to n L ≡ L
  up_to_all n [] le = refl
  up_to_all n (x ∷ L) le = rw (le-leb (suc (length L)) n le) refl

  pub at_up_to : (n k : ℕ) (L : Log C) → k ≤ n → at (up_to n L) k ≡ at L k
  at_up_to n k [] le = refl
  at_up_to n k (x ∷ L) le = go (leb (suc (length L)) n) refl (at_up_to n k L le)
    where
      go : (t : Bool) → leb (suc (length L)) n ≡ t → at (up_to n L) k ≡ at L k → at (cond t (x ∷ L) (up_to n L)) k ≡ at (x ∷ L) k
      go true e ih = refl
      go false e ih = rw (ne_eqb k (suc (length L)) (λ p. omega (arith, leb-false (suc (length L)) n e))) ih

  pub up_to_up_to : (n k : ℕ) (L : Log C) → k ≤ n → up_to k (up_to n L) ≡ up_to k L
  up_to_up_to n k [] le = refl
  up_to_up_to n k (x ∷ L) le = go (leb (suc (length L)) n) refl (up_to_up_to n k L le)
    where
      go : (t : Bool) → leb (suc (length L)) n ≡ t → up_to k (up_to n L) ≡ up_to k L → up_to k (cond t (x ∷ L) (up_to n L)) ≡ up_to k (x ∷ L)
      go true e ih = refl
      go false e ih = rw (lt-leb (suc (length L)) k (omega (arith, leb-false (suc (length L)) n e))) ih

  -- a commit stands for ever
  pub committed_older : (M L : Log C) (j : ℕ) → Older M L → is_committed M j ≡ true → is_committed L j ≡ true
  committed_older M L j same c = c
  committed_older M (None ∷ L) j (more o) c = committed_older M L j o c
  committed_older M (Some (Record r) ∷ L) j (more o) c = committed_older M L j o c
  committed_older M (Some (Job e k) ∷ L) j (more o) c = or_right (eqb k j && commits e) (is_committed L j) (committed_older M L j o c)
  committed_older M (Some (Checkpoint p) ∷ L) j (more o) c = committed_older M L j o c

module _ {C : Type 0} (size capacity : ℕ) where
  pub legal_older : {M L : Log C} → Older M L → Legal size capacity L → Legal size capacity M
  legal_older same h = h
  legal_older (more o) h = legal_older o h.0

  pub legal_up_to : (n : ℕ) (L : Log C) → Legal size capacity L → Legal size capacity (up_to n L)
  legal_up_to n L h = legal_older (older_up_to n L) h
