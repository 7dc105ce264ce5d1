-- A pass over the whole log: what it has come to so far, and one slot more. Assumes nothing.
use Rattle.std.proofs.Common.{◌≡◌, ℕ, zero, suc, pred, ◌<◌, ◌≤◌, ◌+◌, ◌-◌, [], ◌∷◌, length, take, Ok, Err, Option, Result, sym, refl, ap, ◌∙◌, arith}
use Rattle.std.proofs.lemmas.Bool.{lt-ltb, le-ltb}
use Rattle.std.proofs.lemmas.List.{length-take}
use Rattle.format.specs.declared.slot.Slot.{Slot}
use Rattle.format.specs.Changes.{Meaning}
use Rattle.recovery_log.specs.Log.{Log, new_number}
use Rattle.rules.specs.declared.refusal.Refusal.{Refusal}
use Rattle.rules.specs.Reading.{scan, then}
use Rattle.rules.specs.Restart.{whole}
use Rattle.rules.specs.State.{Devices, size, slots, log_length}
use Rattle.promises.proofs.Decoded.{known_length}
use Rattle.calls.specs.Readers.{slot_of, read_up_to}
use Rattle.calls.proofs.Logs.{read_length, read_more_from, read_all}

module _ {C S : Type 0} (from : ℕ) (f : ℕ → Option (Slot C) → S → Result S Refusal) (s : S) where
  -- before the first slot of the pass nothing is done
  scan_before : (L : Log C) → length L < from → scan from f s L ≡ Ok s
  scan_before [] lt = refl
  scan_before (x ∷ L) lt = rw (lt-ltb (new_number L) from lt) refl

  scan_more : (x : Option (Slot C)) (L : Log C) → from ≤ new_number L → scan from f s (x ∷ L) ≡ then (scan from f s L) (f (new_number L) x)
  scan_more x L le = rw (le-ltb (new_number L) from le) refl

  module _ (m : Meaning C) (d : Devices) where
    -- what the pass has come to after n slots
    abbrev pub so_far : ℕ → Result S Refusal
    so_far n = scan from f s (read_up_to m d 1 n)

    one_more : (n : ℕ) → n < log_length d → from ≤ suc n → so_far (suc n) ≡ then (so_far n) (f (suc n) (slot_of m d (suc n)))
    one_more n lt le =
        let k = read_length m d 1 n (omega arith) in
        ap (scan from f s) (read_more_from m d 1 n lt (omega arith)) ∙ (scan_more (slot_of m d (suc n)) (read_up_to m d 1 n) (omega arith)
        ∙ ap (λ i. then (so_far n) (f i (slot_of m d (suc n)))) (ap suc k))

    -- slot n, after what came before it
    pub step : (n : ℕ) → 0 < n → from ≤ n → n ≤ log_length d → {t : S} → so_far (pred n) ≡ Ok t → so_far n ≡ f n (slot_of m d n) t
    step zero one start le e = absurd (omega arith)
    step (suc n) one start le e = one_more n (omega arith) start ∙ ap (λ r. then r (f (suc n) (slot_of m d (suc n)))) e

    -- at the start, where the slots before are read over
    pub nothing_yet : (n : ℕ) → n < from → so_far n ≡ Ok s
    nothing_yet n lt = let k = known_length m (size d) 1 (take n (slots d)) in let le = length-take n (slots d) in scan_before (read_up_to m d 1 n) (omega arith)

    -- at the end
    pub so_all : (n : ℕ) → log_length d ≤ n → so_far n ≡ scan from f s (whole m d)
    so_all n le = ap (scan from f s) (read_all m d 1 n le)

    -- a refusal decides
    pub stays : (k n : ℕ) (why : Refusal) → n + k ≤ log_length d → from ≤ suc n → so_far n ≡ Err why → so_far (n + k) ≡ Err why
    stays zero n why le start e = let z : n + 0 ≡ n = omega arith in rw z e
    stays (suc k) n why le start e =
        let z : n + suc k ≡ suc (n + k) = omega arith in
        rw (z, one_more (n + k) (omega arith) (omega arith), stays k n why (omega arith) start e) refl

    pub stops : (n : ℕ) (why : Refusal) → n ≤ log_length d → from ≤ suc n → so_far n ≡ Err why → scan from f s (whole m d) ≡ Err why
    stops n why le start e =
        let k : n + (log_length d - n) ≡ log_length d = omega arith in
        sym (so_all (n + (log_length d - n)) (omega arith)) ∙ stays (log_length d - n) n why (omega arith) start e
