-- Bytes in a row, the number that four of them spell, and a part of a row rewritten in place. Assumes nothing.
use Rattle.std.specs.Prelude.{◌≡◌, ℕ, ◌+◌, ◌*◌, ◌/◌, ◌%◌, ◌<◌, Bool, List, [], ◌∷◌, ◌++◌, length, take, drop, ◌==◌, nat_lt, slice_index}
use Rattle.std.specs.List.{list_all}

-- n numbers below 256
pub record Bytes (n : ℕ) (xs : List ℕ) : Type 0 where
  pub size : length xs ≡ n
  pub small : (k : ℕ) → slice_index xs k < 256

-- the number in the four bytes from a place on, the lowest first
abbrev pub number_at : List ℕ → ℕ → ℕ
number_at xs at = slice_index xs at + slice_index xs (at + 1) * 256 + slice_index xs (at + 2) * 65536 + slice_index xs (at + 3) * 16777216

-- the four bytes of a number, the lowest first
abbrev pub spelled : ℕ → List ℕ
spelled n = n % 256 ∷ n / 256 % 256 ∷ n / 65536 % 256 ∷ n / 16777216 % 256 ∷ []

-- the n numbers from a place on become f of them, all others stay
abbrev pub rewritten : ℕ → ℕ → (List ℕ → List ℕ) → List ℕ → List ℕ
rewritten at n f xs = take at xs ++ (f (take n (drop at xs)) ++ drop n (drop at xs))

-- tests of a row
abbrev pub all_bytes : List ℕ → Bool
all_bytes xs = list_all (λ x. nat_lt x 256) xs

abbrev pub all_zero : List ℕ → Bool
all_zero xs = list_all (λ x. x == 0) xs
