-- Which 40 bytes form an addition: the description by places agrees with the addition's own bytes.
use Rattle.std.proofs.Common.{◌≡◌, ℕ, ◌-◌, true, false, ◌&&◌, eqb, leb, List, ◌∷◌, ◌++◌, get_or, take, drop, replicate, None, sym, refl, ap, ◌∙◌, arith, lit≤, length-drop}
use mathlib.Core.Bool.{and-true}
use Rattle.std.proofs.lemmas.List.{take-append-drop, drop-drop}
use Rattle.std.proofs.lemmas.Bool.{and_parts, and_from, le-leb, false_from_ne_true}
use Rattle.changes.specs.declared.addition.Addition.{Addition}
use Rattle.changes.specs.AdditionForm.{addition_ok}
use Rattle.changes.specs.Additions.{addition_bytes, addition_of, addition_meaning, is_addition}
use Rattle.format.specs.Bytes.{Bytes, number_at, spelled, all_zero}
use Rattle.changes.specs.AdditionLaws.{addition_low}
use Rattle.changes.specs.KindLaws.{checked_made, form_kept, form_none}
use Rattle.format.proofs.Numbers.{number_part, spelled_number}
use Rattle.format.proofs.Rows.{all_zero_is, bytes_part, four_and_rest}

-- an addition's own bytes stand so
own_stands : (a : Addition) → is_addition (addition_bytes a) ≡ true
own_stands a = and_from (leb a.offset 248) true (le-leb a.offset 248 (addition_low a)) refl

pub no_addition : (b : List ℕ) → (is_addition b ≡ true → ⊥) → record { reads : None ≡ addition_meaning.reads b; forms : false ≡ is_addition b }
no_addition b h = record {
  reads = sym (form_none addition_bytes b (addition_of (get_or b 1 0) (number_at b 4)) (λ a e. h (ap is_addition (sym e) ∙ own_stands a)));
  forms = sym (false_from_ne_true (is_addition b) h);
}

pub unused_stand : (b : List ℕ) → is_addition b ≡ true → all_zero (drop 8 b) ≡ true
unused_stand b e =
    let z = all_zero (drop 8 b) in
    let p = and_parts (eqb (get_or b 0 0) 2) (leb (get_or b 1 0) 248 && (eqb (get_or b 2 0) 0 && (eqb (get_or b 3 0) 0 && z))) e in
    let q = and_parts (leb (get_or b 1 0) 248) (eqb (get_or b 2 0) 0 && (eqb (get_or b 3 0) 0 && z)) p.1 in
    let r = and_parts (eqb (get_or b 2 0) 0) (eqb (get_or b 3 0) 0 && z) q.1 in
    (and_parts (eqb (get_or b 3 0) 0) z r.1).1

-- bytes that stand so, whether or not the offset is in range
module _ (b : List ℕ) (fit : Bytes 40 b) (first : get_or b 0 0 ≡ 2) (third : get_or b 2 0 ≡ 0) (fourth : get_or b 3 0 ≡ 0) (rest : all_zero (drop 8 b) ≡ true) where
  number_stands : take 4 (drop 4 b) ≡ spelled (number_at b 4)
  number_stands = sym (ap spelled (sym (number_part b 4)) ∙ spelled_number (take 4 (drop 4 b)) (bytes_part 4 4 40 b (lit≤ tt) fit))

  zeros : drop 8 b ≡ replicate 32 0
  zeros = all_zero_is (drop 8 b) rest ∙ ap (λ k. replicate k 0) (length-drop 8 b ∙ ap (λ k. k - 8) fit.size)

  whole : b ≡ 2 ∷ get_or b 1 0 ∷ 0 ∷ 0 ∷ (spelled (number_at b 4) ++ replicate 32 0)
  whole =
      let four = four_and_rest b (omega (arith, fit.size)) in
      let split = take-append-drop 4 (drop 4 b) in
      let behind : drop 4 (drop 4 b) ≡ drop 8 b = drop-drop 4 4 b in
      let tail : drop 4 b ≡ spelled (number_at b 4) ++ replicate 32 0 = sym split ∙ ap (λ z. take 4 (drop 4 b) ++ z) (behind ∙ zeros) ∙ ap (λ z. z ++ replicate 32 0) number_stands in
      cc

  pub addition_reads : addition_meaning.reads b ≡ addition_of (get_or b 1 0) (number_at b 4)
  addition_reads =
      let o = get_or b 1 0 in
      let n = number_at b 4 in
      form_kept addition_bytes b (addition_of o n)
      (λ a e. let q = checked_made (addition_ok o n) (λ w. record { offset = o; amount = n; formed = w }) a e in sym (whole ∙ ap addition_bytes q.1))

  pub addition_stands : is_addition b ≡ leb (get_or b 1 0) 248
  addition_stands = rw (first, third, fourth, rest) (and-true _)
