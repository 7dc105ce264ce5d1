-- Additions: the bytes of one, and what it does to content. Assumes nothing.
use Rattle.std.specs.Prelude.{ℕ, ◌+◌, ◌-◌, ◌%◌, ◌^◌, Bool, ◌&&◌, List, ◌∷◌, ◌++◌, drop, replicate, Option, ◌==◌, nat_le, slice_index}
use Rattle.changes.specs.declared.addition.Addition.{Addition}
use Rattle.changes.specs.AdditionForm.{addition_ok}
use Rattle.format.specs.Bytes.{all_zero, number_at, spelled}
use Rattle.format.specs.Changes.{Meaning}
use Rattle.changes.specs.Kinds.{Kind, checked, meaning_of}

abbrev pub addition_bytes : Addition → List ℕ
addition_bytes a = 2 ∷ a.offset ∷ 0 ∷ 0 ∷ (spelled a.amount ++ replicate 32 0)

-- the addition with these fields, if they form one
abbrev pub addition_of : ℕ → ℕ → Option Addition
addition_of o n = checked (addition_ok o n) (λ e. record { offset = o; amount = n; formed = e })

abbrev pub addition_kind : Kind Addition
addition_kind = record {
  bytes = addition_bytes;
  fields = λ b. addition_of (slice_index b 1) (number_at b 4);
  place = λ a. a.offset;
  width = λ a. 4;
  forth = λ a xs. spelled ((number_at xs 0 + a.amount) % 2 ^ 32);
  back = λ a xs. spelled ((number_at xs 0 + (2 ^ 32 - a.amount)) % 2 ^ 32);
}

abbrev pub addition_meaning : Meaning Addition
addition_meaning = meaning_of addition_kind

-- the same form byte by byte: 2, an offset up to 248, two zeros, the amount's four bytes, and zeros
abbrev pub is_addition : List ℕ → Bool
is_addition b = slice_index b 0 == 2 && (nat_le (slice_index b 1) 248 && (slice_index b 2 == 0 && (slice_index b 3 == 0 && all_zero (drop 8 b))))
