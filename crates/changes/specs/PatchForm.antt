-- Which offset, length and mask form a patch. Assumes nothing.
use Rattle.std.specs.Prelude.{ℕ, ◌+◌, Bool, ◌&&◌, List, length, drop, ◌==◌, nat_le}
use Rattle.format.specs.Bytes.{all_bytes, all_zero}

-- 1 to 32 bytes that lie within the 252 bytes of content
abbrev pub patch_range : ℕ → ℕ → Bool
patch_range offset n = nat_le 1 n && (nat_le n 32 && nat_le (offset + n) 252)

-- the mask has 32 bytes, zeros behind its length
abbrev pub patch_ok : ℕ → ℕ → List ℕ → Bool
patch_ok offset n mask = patch_range offset n && (length mask == 32 && (all_bytes mask && all_zero (drop n mask)))
