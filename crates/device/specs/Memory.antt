-- Rows of bytes in memory. Assumes nothing.
use Rattle.std.specs.Prelude.{◌≡◌, ℕ, zero, suc, ◌%◌, ◌<◌, List, [], ◌∷◌, length, slice_index, refl}
use Rattle.std.proofs.Common.{ap, arith, lit<}

-- The n bytes in a row of memory. A row of n bytes is itself, and every row of memory is one by its type. Any other list is cut and
-- filled to n bytes, so that what holds of rows of bytes holds of every value of a store.
abbrev pub as_bytes : ℕ → List ℕ → List ℕ
as_bytes zero xs = []
as_bytes (suc n) [] = 0 ∷ as_bytes n []
as_bytes (suc n) (x ∷ xs) = x % 256 ∷ as_bytes n xs

pub as_bytes_size : (n : ℕ) (xs : List ℕ) → length (as_bytes n xs) ≡ n
as_bytes_size zero xs = refl
as_bytes_size (suc n) [] = ap suc (as_bytes_size n [])
as_bytes_size (suc n) (x ∷ xs) = ap suc (as_bytes_size n xs)

pub as_bytes_small : (n : ℕ) (xs : List ℕ) (k : ℕ) → slice_index (as_bytes n xs) k < 256
as_bytes_small zero xs k = lit< tt
as_bytes_small (suc n) [] zero = lit< tt
as_bytes_small (suc n) [] (suc k) = as_bytes_small n [] k
as_bytes_small (suc n) (x ∷ xs) zero = omega arith
as_bytes_small (suc n) (x ∷ xs) (suc k) = as_bytes_small n xs k
