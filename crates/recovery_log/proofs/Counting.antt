-- What is told of the counts, one slot later. Assumes nothing.
use Rattle.std.proofs.Common.{◌≡◌, ℕ, suc, ◌-◌, ◌≤◌, [], ◌∷◌, length, map, get_or, set, Some, None, refl, arith}
use Rattle.format.specs.declared.slot.kind.SlotKind.{SlotKind}
use Rattle.format.specs.declared.slot.kind.SlotKind.TheVariants as kind
use Rattle.format.specs.Slots.{kind_of, kind_number, every_kind}
use Rattle.format.specs.declared.slot.Slot.{Slot}
use Rattle.recovery_log.specs.Log.{Log, how_many_misfits, how_many}

module _ {C : Type 0} where
  pub how_many_misfits_most : (L : Log C) → how_many_misfits L ≤ length L
  how_many_misfits_most [] = omega arith
  how_many_misfits_most (None ∷ L) = omega (arith, how_many_misfits_most L)
  how_many_misfits_most (Some s ∷ L) = omega (arith, how_many_misfits_most L)

  -- no kind has more slots than there are
  pub how_many_most : (k : SlotKind) (L : Log C) → how_many k L ≤ length L
  how_many_most k [] = omega arith
  how_many_most k (None ∷ L) = omega (arith, how_many_most k L)
  how_many_most k (Some s ∷ L) = grind (arith, how_many_most k L)

  pub count_found : (k : SlotKind) (L : Log C) (d : SlotKind × ℕ) → get_or (map (λ j. (j, how_many j L)) every_kind) (kind_number k - 1) d ≡ (k, how_many k L)
  count_found kind.Open L d = refl
  count_found kind.Change L d = refl
  count_found kind.Compensation L d = refl
  count_found kind.Commit L d = refl
  count_found kind.End L d = refl
  count_found kind.CheckpointBegin L d = refl
  count_found kind.CheckpointPage L d = refl
  count_found kind.CheckpointJob L d = refl
  count_found kind.CheckpointEnd L d = refl

  -- one slot of a kind more adds one to the count at the place of that kind, and leaves the others
  pub counted : (k : SlotKind) (s : Slot C) (L : Log C) (v : ℕ) → kind_of s ≡ k → v ≡ suc (how_many k L)
      → set {A = SlotKind × ℕ} (map (λ j. (j, how_many j L)) every_kind) (kind_number k - 1) (k, v) ≡ map (λ j. (j, how_many j (Some s ∷ L))) every_kind
  counted kind.Open s L v is e = rw (is, e) refl
  counted kind.Change s L v is e = rw (is, e) refl
  counted kind.Compensation s L v is e = rw (is, e) refl
  counted kind.Commit s L v is e = rw (is, e) refl
  counted kind.End s L v is e = rw (is, e) refl
  counted kind.CheckpointBegin s L v is e = rw (is, e) refl
  counted kind.CheckpointPage s L v is e = rw (is, e) refl
  counted kind.CheckpointJob s L v is e = rw (is, e) refl
  counted kind.CheckpointEnd s L v is e = rw (is, e) refl
