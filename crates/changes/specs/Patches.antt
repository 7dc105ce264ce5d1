-- Patches: the bytes of one, and what it does to content. Assumes nothing.
use Rattle.std.specs.Prelude.{ℕ, ◌+◌, ◌-◌, Bool, ◌&&◌, List, [], ◌∷◌, ◌++◌, length, take, drop, replicate, Option, ◌==◌, bit_xor, slice_index}
use Rattle.changes.specs.declared.patch.Patch.{Patch}
use Rattle.changes.specs.PatchForm.{patch_range, patch_ok}
use Rattle.format.specs.Bytes.{all_zero}
use Rattle.format.specs.Changes.{Meaning}
use Rattle.changes.specs.Kinds.{Kind, checked, meaning_of}

abbrev pub patch_bytes : Patch → List ℕ
patch_bytes p = 1 ∷ p.offset ∷ p.length ∷ 0 ∷ (p.mask ++ 0 ∷ 0 ∷ 0 ∷ 0 ∷ [])

-- the patch with these fields, if they form one
abbrev pub patch_of : ℕ → ℕ → List ℕ → Option Patch
patch_of o n m = checked (patch_ok o n m) (λ e. record { offset = o; length = n; mask = m; formed = e })

-- up to 32 bytes with zeros behind them
abbrev pub padded : List ℕ → List ℕ
padded xs = xs ++ replicate (32 - length xs) 0

-- each number of a row exclusive-ored with the one at its place in the mask
abbrev pub xored : List ℕ → List ℕ → List ℕ
xored [] xs = xs
xored (m ∷ ms) [] = []
xored (m ∷ ms) (x ∷ xs) = bit_xor x m ∷ xored ms xs

abbrev pub patch_kind : Kind Patch
patch_kind = record {
  bytes = patch_bytes;
  fields = λ b. patch_of (slice_index b 1) (slice_index b 2) (take 32 (drop 4 b));
  place = λ p. p.offset;
  width = λ p. p.length;
  forth = λ p. xored (take p.length p.mask);
  back = λ p. xored (take p.length p.mask);
}

abbrev pub patch_meaning : Meaning Patch
patch_meaning = meaning_of patch_kind

-- the same form byte by byte: 1, the offset, the length, 0, that many bytes, and zeros
abbrev pub is_patch : List ℕ → Bool
is_patch b = slice_index b 0 == 1 && (patch_range (slice_index b 1) (slice_index b 2) && (slice_index b 3 == 0 && all_zero (drop (4 + slice_index b 2) b)))
