-- A row of bytes in memory is itself.
use Rattle.std.proofs.Common.{◌≡◌, ℕ, zero, suc, ◌%◌, ◌<◌, List, [], ◌∷◌, length, get_or, refl, mod-eq_of_lt, arith}
use Rattle.device.specs.Memory.{as_bytes}

pub as_bytes_is : (n : ℕ) (xs : List ℕ) → length xs ≡ n → ((k : ℕ) → get_or xs k 0 < 256) → as_bytes n xs ≡ xs
as_bytes_is zero [] e h = refl
as_bytes_is zero (x ∷ xs) e h = absurd (omega arith)
as_bytes_is (suc n) [] e h = absurd (omega arith)
as_bytes_is (suc n) (x ∷ xs) e h =
    let m : x % 256 ≡ x = mod-eq_of_lt (h zero) in let rest = as_bytes_is n xs (omega arith) (λ k. h (suc k)) in cc
