-- Which offset and amount form an addition. Assumes nothing.
use Rattle.std.specs.Prelude.{ℕ, ◌^◌, Bool, ◌&&◌, nat_le, nat_lt}

-- four bytes that lie within the 252 bytes of content, and a number that four bytes hold
abbrev pub addition_ok : ℕ → ℕ → Bool
addition_ok offset amount = nat_le offset 248 && nat_lt amount (2 ^ 32)
