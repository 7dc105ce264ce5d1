-- A part of a row rewritten in place: the row stays bytes, and rewriting the part back gives the former row.
use Rattle.std.specs.Prelude.{◌≡◌, ℕ, ◌+◌, ◌-◌, ◌≤◌, List, ◌++◌, length, take, drop}
use Rattle.std.proofs.Common.{ap, ◌∙◌, arith, length-append, length-take, length-drop}
use borrow.Rule.Slice.PartMut.{put_mid}
use Rattle.std.proofs.lemmas.List.{take_at, drop_at, take-append-drop, take-append-le, take-take, length-take-le}
use Rattle.format.specs.Bytes.{Bytes, rewritten}
use Rattle.format.proofs.Rows.{small_append, small_take, small_drop}

module _ (at n : ℕ) (f : List ℕ → List ℕ) (xs : List ℕ) where
  pub rewritten_fits : (m : ℕ) → at + n ≤ m → Bytes m xs → Bytes n (f (take n (drop at xs))) → Bytes m (rewritten at n f xs)
  rewritten_fits m h p q = record {
    size = simp (length-append, length-take, length-drop) (omega (arith, p.size, q.size));
    small = small_append _ _ (small_take at xs p.small) (small_append _ _ q.small (small_drop n _ (small_drop at xs p.small)));
  }

  pub rewritten_back : (g : List ℕ → List ℕ) → at ≤ length xs → length (f (take n (drop at xs))) ≡ n → g (f (take n (drop at xs))) ≡ take n (drop at xs) → rewritten at n g (rewritten at n f xs) ≡ xs
  rewritten_back g h l u =
      let front = take_at (take at xs) (f (take n (drop at xs)) ++ drop n (drop at xs)) at (length-take-le at xs h) in
      let behind = drop_at (take at xs) (f (take n (drop at xs)) ++ drop n (drop at xs)) at (length-take-le at xs h) in
      let part = take_at (f (take n (drop at xs))) (drop n (drop at xs)) n l in
      let after = drop_at (f (take n (drop at xs))) (drop n (drop at xs)) n l in
      let whole = take-append-drop n (drop at xs) in
      let all = take-append-drop at xs in
      cc

  -- what stands after a part of a row was written over
  pub written_is : (ys : List ℕ) → ys ≡ f (take n (drop at xs)) → put_mid at (at + n - at) xs ys ≡ rewritten at n f xs
  written_is ys e = let z : at + n - at ≡ n = omega arith in rw (z, e)

  -- what stands before the part stays
  pub rewritten_front : (m : ℕ) → m ≤ at → at ≤ length xs → take m (rewritten at n f xs) ≡ take m xs
  rewritten_front m h l =
      let long : m ≤ length (take at xs) = omega (arith, length-take-le at xs l) in
      take-append-le m (take at xs) (f (take n (drop at xs)) ++ drop n (drop at xs)) long ∙ take-take m at xs h

  pub rewritten_part : at ≤ length xs → length (f (take n (drop at xs))) ≡ n → take n (drop at (rewritten at n f xs)) ≡ f (take n (drop at xs))
  rewritten_part h l =
      ap (take n) (drop_at (take at xs) (f (take n (drop at xs)) ++ drop n (drop at xs)) at (length-take-le at xs h))
      ∙ take_at (f (take n (drop at xs))) (drop n (drop at xs)) n l
