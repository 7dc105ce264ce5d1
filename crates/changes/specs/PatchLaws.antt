-- Patches keep the laws of a kind of change: exclusive-or with the same bytes twice changes nothing.
use Rattle.std.specs.Prelude.{◌≡◌, ℕ, zero, suc, ◌+◌, ◌-◌, ◌<◌, ◌≤◌, true, ◌&&◌, List, [], ◌∷◌, ◌++◌, length, take, drop, replicate, Some, ◌==◌, bit_xor, nat_le, slice_index, slice_set, refl}
use Rattle.std.proofs.Common.{sym, ap, ◌∙◌, arith, lit<, length-append}
use Rattle.std.specs.Int.Bits.{xor_self, xor_assoc, xor_zero_r}
use Rattle.std.proofs.lemmas.Nat.{xor_lt}
use Rattle.std.proofs.lemmas.List.{append_assoc, take_at, drop_at, drop_all, drop_more, drop-replicate, drop-set-lt, take-append-drop, take_more_set, length-replicate}
use Rattle.std.proofs.lemmas.Bool.{and_parts, and_from, leb-true, le-leb, eqb-true, eq-eqb}
use Rattle.changes.specs.declared.patch.Patch.{Patch}
use Rattle.changes.specs.PatchForm.{patch_range, patch_ok}
use Rattle.changes.specs.Patches.{patch_bytes, patch_of, patch_kind, padded, xored}
use Rattle.format.specs.Bytes.{all_bytes, all_zero, Bytes}
use Rattle.changes.specs.KindLaws.{Sound, checked_is}
use Rattle.format.proofs.Rows.{Small, small_cons, small_four, small_append, small_take, small_zeros, all_bytes_small, small_all_bytes, zeros_all_zero}

pub patch_is : (p : Patch) → Some p ≡ patch_of p.offset p.length p.mask
patch_is p = checked_is (patch_ok p.offset p.length p.mask) (λ e. record { offset = p.offset; length = p.length; mask = p.mask; formed = e }) p.formed

-- what the test of a patch's fields says
pub record Fits (o n : ℕ) (m : List ℕ) : Type 0 where
  pub some : 1 ≤ n
  pub few : n ≤ 32
  pub inside : o + n ≤ 252
  pub size : length m ≡ 32
  pub small : Small m
  pub rest : all_zero (drop n m) ≡ true

pub fits : (o n : ℕ) (m : List ℕ) → patch_ok o n m ≡ true → Fits o n m
fits o n m e =
    let p = and_parts (patch_range o n) (length m == 32 && (all_bytes m && all_zero (drop n m))) e in
    let r = and_parts (nat_le 1 n) (nat_le n 32 && nat_le (o + n) 252) p.0 in
    let s = and_parts (nat_le n 32) (nat_le (o + n) 252) r.1 in
    let t = and_parts (length m == 32) (all_bytes m && all_zero (drop n m)) p.1 in
    let u = and_parts (all_bytes m) (all_zero (drop n m)) t.1 in
    record {
      some = leb-true 1 n r.0;
      few = leb-true n 32 s.0;
      inside = leb-true (o + n) 252 s.1;
      size = eqb-true (length m) 32 t.0;
      small = all_bytes_small m u.0;
      rest = u.1;
    }

pub xored_length : (ms xs : List ℕ) → length (xored ms xs) ≡ length xs
xored_length [] xs = refl
xored_length (m ∷ ms) [] = refl
xored_length (m ∷ ms) (x ∷ xs) = ap suc (xored_length ms xs)

pub xored_small : (ms xs : List ℕ) → Small ms → Small xs → Small (xored ms xs)
xored_small [] xs p q = q
xored_small (m ∷ ms) [] p q = q
xored_small (m ∷ ms) (x ∷ xs) p q =
    small_cons (bit_xor x m) (xored ms xs) (xor_lt 8 x m (q zero) (p zero)) (xored_small ms xs (λ k. p (suc k)) (λ k. q (suc k)))

xor_twice : (x m : ℕ) → bit_xor (bit_xor x m) m ≡ x
xor_twice x m = xor_assoc x m m ∙ ap (bit_xor x) (xor_self m) ∙ xor_zero_r x

pub xored_twice : (ms xs : List ℕ) → xored ms (xored ms xs) ≡ xs
xored_twice [] xs = refl
xored_twice (m ∷ ms) [] = refl
xored_twice (m ∷ ms) (x ∷ xs) = let h = xor_twice x m in let k = xored_twice ms xs in cc

-- the row with one more number exclusive-ored in place
pub xored_step : (ms xs : List ℕ) (i : ℕ) → i < length ms → i < length xs
    → let y = bit_xor (slice_index xs i) (slice_index ms i) in
    take (i + 1) (slice_set xs i y) ++ xored (drop (i + 1) ms) (drop (i + 1) (slice_set xs i y)) ≡ take i xs ++ xored (drop i ms) (drop i xs)
xored_step ms xs i h k =
    let y = bit_xor (slice_index xs i) (slice_index ms i) in
    let j : i < i + 1 = omega arith in
    rw (take_more_set xs i y k, drop-set-lt (i + 1) xs i y j, drop_more ms i 0 h, drop_more xs i 0 k, append_assoc)

pub xored_end : (ms xs : List ℕ) (i : ℕ) → length ms ≤ i → length xs ≤ i → take i xs ++ xored (drop i ms) (drop i xs) ≡ xs
xored_end ms xs i h k = rw (drop_all i ms h, take-append-drop i xs)

module _ (p : Patch) where
  pub patch_fits : Fits p.offset p.length p.mask
  patch_fits = fits p.offset p.length p.mask p.formed

  bytes_fit : Bytes 40 (patch_bytes p)
  bytes_fit = record {
    size = simp length-append (omega (arith, patch_fits.size));
    small =
        small_four 1 p.offset p.length 0 (p.mask ++ replicate 4 0) (lit< tt) (omega (arith, patch_fits.inside)) (omega (arith, patch_fits.few)) (lit< tt)
        (small_append p.mask (replicate 4 0) patch_fits.small (all_bytes_small (replicate 4 0) refl));
  }

  fields_stand : patch_kind.fields (patch_bytes p) ≡ Some p
  fields_stand = ap (patch_of p.offset p.length) (take_at p.mask (replicate 4 0) 32 patch_fits.size) ∙ sym (patch_is p)

  xored_fits : (xs : List ℕ) → Bytes p.length xs → Bytes p.length (patch_kind.forth p xs)
  xored_fits xs q = record {
    size = xored_length (take p.length p.mask) xs ∙ q.size;
    small = xored_small (take p.length p.mask) xs (small_take p.length p.mask patch_fits.small) q.small;
  }

pub patch_sound : Sound patch_kind
patch_sound = record {
  bytes_fit = bytes_fit;
  fields_stand = fields_stand;
  inside = λ p. (patch_fits p).inside;
  forth_fits = xored_fits;
  back_fits = xored_fits;
  undone = λ p xs q. xored_twice (take p.length p.mask) xs;
}

pub padded_size : (xs : List ℕ) → length xs ≤ 32 → length (padded xs) ≡ 32
padded_size xs h = simp (length-append, length-replicate) (omega arith)

pub patch_range_from : (o n : ℕ) → 1 ≤ n → n ≤ 32 → o + n ≤ 252 → patch_range o n ≡ true
patch_range_from o n p q r = and_from _ _ (le-leb 1 n p) (and_from _ _ (le-leb n 32 q) (le-leb (o + n) 252 r))

pub padded_ok : (o : ℕ) (xs : List ℕ) → 1 ≤ length xs → length xs ≤ 32 → o + length xs ≤ 252 → Small xs → patch_ok o (length xs) (padded xs) ≡ true
padded_ok o xs p q r s =
    and_from _ _ (patch_range_from o (length xs) p q r)
    (and_from _ _ (eq-eqb _ 32 (padded_size xs q))
    (and_from _ _ (small_all_bytes (padded xs) (small_append xs (replicate (32 - length xs) 0) s (small_zeros (32 - length xs))))
    (rw (drop_at xs (replicate (32 - length xs) 0) (length xs) refl) (zeros_all_zero (32 - length xs)))))

-- bytes written over the front of 32 zeros
pub padded_is : (xs ys : List ℕ) → ys ≡ xs → ys ++ drop (length xs - 0) (replicate 32 0) ≡ padded xs
padded_is xs ys e = let z : length xs - 0 ≡ length xs = omega arith in rw (e, z, drop-replicate {X = ℕ} (length xs) 32 0)
