-- Which 40 bytes form a patch: the description by places agrees with the patch's own bytes.
use Rattle.std.proofs.Common.{◌≡◌, ℕ, ◌+◌, ◌-◌, ◌≤◌, true, false, ◌&&◌, eqb, leb, List, ◌∷◌, ◌++◌, length, get_or, take, drop, replicate, None, sym, refl, ap, ◌∙◌, arith, length-drop, length-take}
use mathlib.Core.Bool.{and-true}
use Rattle.std.proofs.lemmas.List.{append_assoc, take-append-drop, drop-drop, drop-append-le, take_at, replicate-append-replicate}
use Rattle.std.proofs.lemmas.Bool.{and_parts, and_from, eqb-true, leb-true, false_from_ne_true}
use Rattle.changes.specs.declared.patch.Patch.{Patch}
use Rattle.changes.specs.PatchForm.{patch_range, patch_ok}
use Rattle.changes.specs.Patches.{patch_bytes, patch_of, patch_meaning, padded, is_patch}
use Rattle.format.specs.Bytes.{all_zero}
use Rattle.changes.specs.KindLaws.{checked_made, form_kept, form_none}
use Rattle.changes.specs.PatchLaws.{patch_fits, patch_range_from, padded_size}
use Rattle.format.proofs.Rows.{all_zero_is, all_zero_append, four_and_rest}

-- what the description by places says
pub record Stands (b : List ℕ) : Type 0 where
  pub first : get_or b 0 0 ≡ 1
  pub some : 1 ≤ get_or b 2 0
  pub few : get_or b 2 0 ≤ 32
  pub inside : get_or b 1 0 + get_or b 2 0 ≤ 252
  pub fourth : get_or b 3 0 ≡ 0
  pub rest : all_zero (drop (4 + get_or b 2 0) b) ≡ true

pub stands : (b : List ℕ) → is_patch b ≡ true → Stands b
stands b e =
    let o = get_or b 1 0 in
    let n = get_or b 2 0 in
    let p = and_parts (eqb (get_or b 0 0) 1) (patch_range o n && (eqb (get_or b 3 0) 0 && all_zero (drop (4 + n) b))) e in
    let q = and_parts (patch_range o n) (eqb (get_or b 3 0) 0 && all_zero (drop (4 + n) b)) p.1 in
    let r = and_parts (leb 1 n) (leb n 32 && leb (o + n) 252) q.0 in
    let s = and_parts (leb n 32) (leb (o + n) 252) r.1 in
    let t = and_parts (eqb (get_or b 3 0) 0) (all_zero (drop (4 + n) b)) q.1 in
    record {
      first = eqb-true (get_or b 0 0) 1 p.0;
      some = leb-true 1 n r.0;
      few = leb-true n 32 s.0;
      inside = leb-true (o + n) 252 s.1;
      fourth = eqb-true (get_or b 3 0) 0 t.0;
      rest = t.1;
    }

-- a patch's own bytes stand so
own_stands : (p : Patch) → is_patch (patch_bytes p) ≡ true
own_stands p =
    let f = patch_fits p in
    let few : p.length ≤ length p.mask = omega (arith, f.few, f.size) in
    let behind : drop (4 + p.length) (patch_bytes p) ≡ drop p.length p.mask ++ replicate 4 0 = sym (drop-drop p.length 4 (patch_bytes p)) ∙ drop-append-le p.length p.mask (replicate 4 0) few in
    and_from (patch_range p.offset p.length) (all_zero (drop (4 + p.length) (patch_bytes p))) (patch_range_from p.offset p.length f.some f.few f.inside)
    (rw behind (all_zero_append (drop p.length p.mask) (replicate 4 0) f.rest refl))

pub no_patch : (b : List ℕ) → (is_patch b ≡ true → ⊥) → record { reads : None ≡ patch_meaning.reads b; forms : false ≡ is_patch b }
no_patch b h = record {
  reads = sym (form_none patch_bytes b (patch_of (get_or b 1 0) (get_or b 2 0) (take 32 (drop 4 b))) (λ p e. h (ap is_patch (sym e) ∙ own_stands p)));
  forms = sym (false_from_ne_true (is_patch b) h);
}

-- bytes that stand so, whether or not offset and length are in range
module _ (b : List ℕ) (size : length b ≡ 40) (first : get_or b 0 0 ≡ 1) (fourth : get_or b 3 0 ≡ 0) (few : get_or b 2 0 ≤ 32) (rest : all_zero (drop (4 + get_or b 2 0) b) ≡ true) where
  part : List ℕ
  part = take (get_or b 2 0) (drop 4 b)

  part_size : length part ≡ get_or b 2 0
  unfolding part
  part_size = simp (length-take, length-drop) (omega arith)

  count : length (drop (4 + get_or b 2 0) b) ≡ 32 - length part + 4
  count = simp length-drop (omega (arith, part_size))

  zeros : drop (get_or b 2 0) (drop 4 b) ≡ replicate (32 - length part) 0 ++ replicate 4 0
  zeros = drop-drop (get_or b 2 0) 4 b ∙ all_zero_is (drop (4 + get_or b 2 0) b) rest ∙ ap (λ k. replicate k 0) count ∙ sym (replicate-append-replicate (32 - length part) 4 0)

  behind : drop 4 b ≡ padded part ++ replicate 4 0
  unfolding part
  behind =
      sym (take-append-drop (get_or b 2 0) (drop 4 b)) ∙ ap (λ z. part ++ z) zeros
      ∙ sym (append_assoc part (replicate (32 - length part) 0) (replicate 4 0))

  mask_is : take 32 (drop 4 b) ≡ padded part
  mask_is = ap (take 32) behind ∙ take_at (padded part) (replicate 4 0) 32 (padded_size part (omega (arith, part_size)))

  whole : b ≡ 1 ∷ get_or b 1 0 ∷ get_or b 2 0 ∷ 0 ∷ (take 32 (drop 4 b) ++ replicate 4 0)
  whole =
      let four = four_and_rest b (omega (arith, size)) in
      let tail : drop 4 b ≡ take 32 (drop 4 b) ++ replicate 4 0 = behind ∙ ap (λ m. m ++ replicate 4 0) (sym mask_is) in
      cc

  reads : patch_meaning.reads b ≡ patch_of (get_or b 1 0) (get_or b 2 0) (padded part)
  reads =
      let o = get_or b 1 0 in
      let n = get_or b 2 0 in
      form_kept patch_bytes b (patch_of o n (take 32 (drop 4 b)))
      (λ p e. let q = checked_made (patch_ok o n (take 32 (drop 4 b))) (λ w. record { offset = o; length = n; mask = take 32 (drop 4 b); formed = w }) p e in sym (whole ∙ ap patch_bytes q.1))
      ∙ ap (patch_of o n) mask_is

  is_in_range : is_patch b ≡ patch_range (get_or b 1 0) (get_or b 2 0)
  is_in_range = rw (first, fourth, rest) (and-true _)

  -- what is cut out as the bytes from 4 up to their end
  cut_size : 4 + get_or b 2 0 - 4 ≡ get_or b 2 0
  cut_size = omega arith

  pub patch_reads : let cut = take (4 + get_or b 2 0 - 4) (drop 4 b) in patch_of (get_or b 1 0) (length cut) (padded cut) ≡ patch_meaning.reads b
  unfolding part
  patch_reads =
      ap (λ n. patch_of (get_or b 1 0) (length (take n (drop 4 b))) (padded (take n (drop 4 b)))) cut_size
      ∙ ap (λ n. patch_of (get_or b 1 0) n (padded part)) part_size ∙ sym reads

  pub patch_stands : patch_range (get_or b 1 0) (length (take (4 + get_or b 2 0 - 4) (drop 4 b))) ≡ is_patch b
  unfolding part
  patch_stands = ap (λ n. patch_range (get_or b 1 0) (length (take n (drop 4 b)))) cut_size ∙ ap (patch_range (get_or b 1 0)) part_size ∙ sym is_in_range
