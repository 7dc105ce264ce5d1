-- What holds at all times holds when power comes back, when a server is made again, and at the beginning. Assumes nothing.
use Rattle.std.proofs.Common.{◌≡◌, ℕ, zero, suc, ◌≤◌, Bool, true, false, cond, ◌||◌, eqb, ◌⊎◌, List, [], ◌∷◌, ◌++◌, get_or, replicate, sym, refl, ap, inl, inr, arith}
use Rattle.std.proofs.lemmas.List.{length-take-le, take-take, length-replicate}
use Rattle.std.proofs.lemmas.Bool.{eqb-true, le-leb, or_cases, or_left, or_right, both_ways}
use Rattle.format.specs.Changes.{Meaning}
use Rattle.format.specs.Pages.{page_of, blank_page}
use Rattle.recovery_log.specs.Log.{Log, is_committed}
use Rattle.rules.specs.Ledger.{Ledger, empty, is_in, committed_of, settled}
use Rattle.rules.specs.Plans.{powered_on}
use Rattle.rules.specs.Reading.{up_to}
use Rattle.rules.specs.Restart.{whole}
use Rattle.rules.specs.Runs.{blank, with_powers, left_over}
use Rattle.rules.specs.State.{Devices, size, log_length}
use Rattle.promises.proofs.Cuts.{up_to_all}
use Rattle.promises.proofs.Decoded.{whole_length, whole_powered_on}
use Rattle.promises.proofs.Invariants.{stored, Kept, Settled, Powered}
use Rattle.promises.proofs.States.{state_of, of_state, kept_by, cut}

all_alike : {A : Type 0} (n p : ℕ) (x : A) → get_or (replicate n x) p x ≡ x
all_alike zero p x = refl
all_alike (suc n) zero x = refl
all_alike (suc n) (suc p) x = all_alike n p x

-- Jobs of the ledger

is_in_append : (j : ℕ) (xs ys : List ℕ) → is_in j (xs ++ ys) ≡ (is_in j xs || is_in j ys)
is_in_append j [] ys = refl
is_in_append j (x ∷ xs) ys = go (eqb x j) (is_in_append j xs ys)
  where
    go : (t : Bool) → is_in j (xs ++ ys) ≡ (is_in j xs || is_in j ys) → (t || is_in j (xs ++ ys)) ≡ ((t || is_in j xs) || is_in j ys)
    go true ih = refl
    go false ih = ih

module _ {C : Type 0} (L : Log C) where
  -- those of them with a commit
  in_committed : (j : ℕ) (xs : List ℕ) → is_in j xs ≡ true → is_committed L j ≡ true → is_in j (committed_of L xs) ≡ true
  in_committed j [] i c = i
  in_committed j (x ∷ xs) i c = go (eqb x j) refl (is_committed L x) refl i (in_committed j xs)
    where
      go : (t : Bool) → eqb x j ≡ t → (u : Bool) → is_committed L x ≡ u → (t || is_in j xs) ≡ true
          → (is_in j xs ≡ true → is_committed L j ≡ true → is_in j (committed_of L xs) ≡ true) → is_in j (cond u (x ∷ committed_of L xs) (committed_of L xs)) ≡ true
      go true e true q i' ih = rw e
      go true e false q i' ih = absurd (both_ways (is_committed L x) q (rw (eqb-true x j e) c))
      go false e true q i' ih = rw e (ih i' c)
      go false e false q i' ih = ih i' c

  committed_in : (j : ℕ) (xs : List ℕ) → is_in j (committed_of L xs) ≡ true → is_committed L j ≡ true
  committed_in j [] i = absurd (both_ways _ refl i)
  committed_in j (x ∷ xs) i = go (eqb x j) refl (is_committed L x) refl i (committed_in j xs)
    where
      go : (t : Bool) → eqb x j ≡ t → (u : Bool) → is_committed L x ≡ u → is_in j (cond u (x ∷ committed_of L xs) (committed_of L xs)) ≡ true
          → (is_in j (committed_of L xs) ≡ true → is_committed L j ≡ true) → is_committed L j ≡ true
      go true e true q i' ih = rw (eqb-true x j e) at q
      go false e true q i' ih = ih (rw e at i')
      go true e false q i' ih = ih i'
      go false e false q i' ih = ih i'

module _ {C : Type 0} (m : Meaning C) where
  -- Power comes back

  pub powered_on_power : (d : Devices) → Powered m (powered_on d)
  powered_on_power d = record { pages = refl; log = refl }

  pub powered_on_forced : (h : Ledger C) (d : Devices) → Kept m h d → (powered_on d).log.forced ≡ log_length (powered_on d)
  powered_on_forced h d k = sym (length-take-le d.log.forced d.log.slots k.durable.forced)

  pub kept_powered_on : (h : Ledger C) (d : Devices) → Kept m h d → Kept m h (powered_on d)
  kept_powered_on h d k = kept_by m h (powered_on d) (size d) d.log.capacity d.log.forced (up_to d.log.forced (whole m d)) (stored m d) refl refl refl
      (whole_powered_on m d) (λ p. refl) (cut m h (size d) d.log.capacity d.log.forced (whole m d) (stored m d) (state_of m h d k))

  kept_with_powers : (h : Ledger C) (d : Devices) (a b : Bool) → Kept m h d → Kept m h (with_powers m a b d)
  kept_with_powers h d a b k = of_state m h (with_powers m a b d) (state_of m h d k)

  pub kept_left_over : (h : Ledger C) (d : Devices) (cut a b : Bool) → Kept m h d → Kept m h (left_over m cut a b d)
  kept_left_over h d true a b k = kept_with_powers h (powered_on d) a b (kept_powered_on h d k)
  kept_left_over h d false a b k = kept_with_powers h d a b k

  -- to be cut once more takes nothing away
  pub powered_on_left_over : (d : Devices) (cut a b : Bool) → powered_on (left_over m cut a b d) ≡ powered_on d
  powered_on_left_over d true a b = rw (take-take d.log.forced d.log.forced d.log.slots (omega arith))
  powered_on_left_over d false a b = refl

  -- the doubtful jobs are settled: all that is left is forced
  pub settles : (h : Ledger C) (d : Devices) → Kept m h d
      → Kept m (settled (whole m (powered_on d)) h) (powered_on d) × Settled m (settled (whole m (powered_on d)) h) (powered_on d)
  settles h d k = (
    record {
      durable = k'.durable;
      book = record {
        entries = k'.book.entries;
        committed = λ j c. or_left (is_in j now) false (found j c);
        kept = λ j i. rw all (left j i);
        old = k'.book.old;
      };
    },
    record { none = refl; exact = λ j. same j (is_in j now) (is_committed K j) (found j) (left j) },
  )
    where
      K : Log C
      K = whole m (powered_on d)

      k' : Kept m h (powered_on d)
      k' = kept_powered_on h d k

      now : List ℕ
      now = committed_of K h.doubtful ++ h.kept

      all : up_to d.log.forced K ≡ K
      all = up_to_all d.log.forced K (omega (arith, whole_length m (powered_on d), powered_on_forced h d k))

      found : (j : ℕ) → is_committed K j ≡ true → is_in j now ≡ true
      found j c = rw (is_in_append j (committed_of K h.doubtful) h.kept) (go (or_cases _ _ (k'.book.committed j c)))
        where
          go : (is_in j h.kept ≡ true) ⊎ (is_in j h.doubtful ≡ true) → (is_in j (committed_of K h.doubtful) || is_in j h.kept) ≡ true
          go (inl i) = or_right (is_in j (committed_of K h.doubtful)) (is_in j h.kept) i
          go (inr i) = or_left (is_in j (committed_of K h.doubtful)) (is_in j h.kept) (in_committed K j h.doubtful i c)

      left : (j : ℕ) → is_in j now ≡ true → is_committed K j ≡ true
      left j i = go (or_cases _ _ (rw (is_in_append j (committed_of K h.doubtful) h.kept) at i))
        where
          go : (is_in j (committed_of K h.doubtful) ≡ true) ⊎ (is_in j h.kept ≡ true) → is_committed K j ≡ true
          go (inl u) = committed_in K j h.doubtful u
          go (inr u) = rw all at (k'.book.kept j u)

      same : (j : ℕ) (a b : Bool) → (b ≡ true → a ≡ true) → (a ≡ true → b ≡ true) → a ≡ b
      same j true b f g = sym (g refl)
      same j false true f g = f refl
      same j false false f g = refl

  -- The beginning

  pub kept_blank : (n capacity : ℕ) (a b : Bool) → 1 ≤ n → n ≤ 64 → 8 ≤ capacity → capacity ≤ 4096 → Kept m empty (blank m n capacity a b)
  kept_blank n capacity a b some few long short = kept_by m empty (blank m n capacity a b) n capacity 0 [] (λ p. blank_page) (length-replicate n (replicate {A = ℕ} 256 0)) refl refl
      refl (λ p. ap page_of (all_alike n p (replicate 256 0))) (record {
        sizes = rw (le-leb 1 n some, le-leb n 64 few, le-leb 8 capacity long, le-leb capacity 4096 short);
        held = omega arith;
        legal = tt;
        exclusive = tt;
        images = λ p. refl;
        ahead = λ p. omega arith;
        truths = λ e b q. let z : ◌≡◌ {A = ℕ} 0 1 = cc in absurd (omega arith);
        entries = λ p. refl;
        committed = λ j c. absurd (both_ways _ refl c);
        kept = λ j i. absurd (both_ways _ refl i);
        old = λ e i. elim i [ ];
      })
