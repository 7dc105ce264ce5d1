-- Additions keep the laws of a kind of change.
use Rattle.std.specs.Prelude.{◌≡◌, ℕ, ◌+◌, ◌-◌, ◌%◌, ◌^◌, ◌<◌, ◌≤◌, true, List, ◌++◌, length, replicate, Some, nat_le, nat_lt, refl}
use Rattle.std.proofs.Common.{sym, ap, ◌∙◌, arith, lit<}
use Rattle.std.proofs.lemmas.Bool.{and_parts, leb-true, ltb-true}
use Rattle.std.proofs.lemmas.Nat.{mod_below}
use Rattle.changes.specs.declared.addition.Addition.{Addition}
use Rattle.changes.specs.AdditionForm.{addition_ok}
use Rattle.changes.specs.Additions.{addition_bytes, addition_of, addition_kind, addition_meaning}
use Rattle.format.specs.Bytes.{Bytes, number_at, spelled}
use Rattle.changes.specs.KindLaws.{Sound, checked_is, checked_made}
use Rattle.format.proofs.Numbers.{small_spelled, bytes_spelled, number_spelled, number_part, number_small, spelled_number, sum_back}
use Rattle.changes.specs.Rewrites.{rewritten_part}
use Rattle.format.proofs.Rows.{small_four, small_append, all_bytes_small}

pub addition_is : (a : Addition) → Some a ≡ addition_of a.offset a.amount
addition_is a = checked_is (addition_ok a.offset a.amount) (λ e. record { offset = a.offset; amount = a.amount; formed = e }) a.formed

pub addition_made : (o n : ℕ) (a : Addition) → Some a ≡ addition_of o n → (a.offset ≡ o) × (a.amount ≡ n)
addition_made o n a e =
    let q = checked_made (addition_ok o n) (λ w. record { offset = o; amount = n; formed = w }) a (sym e) in
    (ap (λ x. x.offset) (sym q.1), ap (λ x. x.amount) (sym q.1))

module _ (a : Addition) where
  parts : (nat_le a.offset 248 ≡ true) × (nat_lt a.amount (2 ^ 32) ≡ true)
  parts = and_parts (nat_le a.offset 248) (nat_lt a.amount (2 ^ 32)) a.formed

  pub addition_low : a.offset ≤ 248
  addition_low = leb-true a.offset 248 parts.0

  pub addition_fits : a.amount < 2 ^ 32
  addition_fits = ltb-true a.amount (2 ^ 32) parts.1

  bytes_fit : Bytes 40 (addition_bytes a)
  bytes_fit = record {
    size = refl;
    small =
        small_four 2 a.offset 0 0 (spelled a.amount ++ replicate 32 0) (lit< tt) (omega (arith, addition_low)) (lit< tt) (lit< tt)
        (small_append (spelled a.amount) (replicate 32 0) (small_spelled a.amount) (all_bytes_small (replicate 32 0) refl));
  }

  fields_stand : addition_kind.fields (addition_bytes a) ≡ Some a
  fields_stand = ap (addition_of a.offset) (number_spelled a.amount addition_fits) ∙ sym (addition_is a)

  undone : (xs : List ℕ) → Bytes 4 xs → addition_kind.back a (addition_kind.forth a xs) ≡ xs
  undone xs p =
      let s = (number_at xs 0 + a.amount) % 2 ^ 32 in
      ap (λ m. spelled ((m + (2 ^ 32 - a.amount)) % 2 ^ 32)) (number_spelled s (mod_below _ (2 ^ 32) (lit< tt)))
      ∙ ap spelled (sum_back (number_at xs 0) a.amount (number_small xs p.small) addition_fits)
      ∙ spelled_number xs p

-- the number at the offset becomes the sum
pub added : (a : Addition) (d : List ℕ) (o n : ℕ) → (a.offset ≡ o) × (a.amount ≡ n) → o ≤ length d → number_at (addition_meaning.put a d) o ≡ (number_at d o + n) % 2 ^ 32
added a d o n e h =
    let after = addition_meaning.put a d in
    let part = rewritten_part a.offset 4 (addition_kind.forth a) d (omega (arith, e.0)) refl in
    ap (λ k. number_at after k) (sym e.0) ∙ sym (number_part after a.offset) ∙ ap (λ xs. number_at xs 0) part
    ∙ number_spelled _ (mod_below _ (2 ^ 32) (lit< tt))
    ∙ ap (λ m. (m + a.amount) % 2 ^ 32) (number_part d a.offset ∙ ap (λ k. number_at d k) e.0) ∙ ap (λ m. (number_at d o + m) % 2 ^ 32) e.1

pub addition_sound : Sound addition_kind
addition_sound = record {
  bytes_fit = bytes_fit;
  fields_stand = fields_stand;
  inside = λ a. omega (arith, addition_low a);
  forth_fits = λ a xs p. bytes_spelled _;
  back_fits = λ a xs p. bytes_spelled _;
  undone = undone;
}
