-- All bytes that a kind does not use are zero: a test of the whole table of kinds, and the lemma that carries it to every slot.
-- Assumes nothing.
use Rattle.std.proofs.Common.{◌≡◌, ℕ, zero, suc, ◌<◌, ◌≤◌, Bool, true, false, cond, List, [], ◌∷◌, ◌++◌, map, length, get_or, replicate, refl, ap, ◌∙◌, subst, ⊎_elim, zero-add}
use Rattle.std.specs.List.{range_with_len}
use Rattle.std.proofs.lemmas.Bool.{cases_lt, true≢false, cond-false}
use Rattle.std.proofs.lemmas.List.{get_or_past}
use Rattle.std.proofs.lemmas.List.FromFn.{get_or-map-range_with_len}
use Rattle.format.specs.declared.slot.fields.Fields.{Fields}
use Rattle.format.specs.declared.slot.fields.Uses.{Uses}
use Rattle.format.specs.declared.slot.kind.SlotKind.{SlotKind}
use Rattle.format.specs.declared.slot.kind.SlotKind.TheVariants as kind
use Rattle.format.specs.declared.slot.Slot.{Slot}
use Rattle.format.specs.Bytes.{spelled}
use Rattle.format.specs.Changes.{Meaning, Lawful}
use Rattle.format.proofs.ByKind.{told}
use Rattle.format.specs.Slots.{uses_of, kind_uses_byte, laid_out, only_used, no_change, kind_of, slot_fields, slot_bytes}

-- The test

abbrev four : Bool → List Bool → List Bool
four u us = u ∷ u ∷ u ∷ u ∷ us

-- which of the 60 bytes a row writes, in the order in which they are laid out
abbrev stencil : Uses → List Bool
stencil u = true ∷ u.page ∷ false ∷ false ∷ four u.job (four u.lrc (four u.link (replicate 40 u.change ++ four false [])))

-- the bytes that are written are those that are used
table : (k : SlotKind) → stencil (uses_of k) ≡ map (kind_uses_byte k) (range_with_len 0 60)
table kind.Open = refl
table kind.Change = refl
table kind.Compensation = refl
table kind.Commit = refl
table kind.End = refl
table kind.CheckpointBegin = refl
table kind.CheckpointPage = refl
table kind.CheckpointJob = refl
table kind.CheckpointEnd = refl

not_written : (k : SlotKind) (i : ℕ) → kind_uses_byte k i ≡ false → get_or (stencil (uses_of k)) i false ≡ false
not_written k i e = ⊎_elim
    (λ (lt : i < 60). ap (λ (us : List Bool). get_or us i false) (table k) ∙ (get_or-map-range_with_len (kind_uses_byte k) 0 60 i i false lt (zero-add i) ∙ e))
    (λ (le : 60 ≤ i). get_or_past (stencil (uses_of k)) i false le)
    (cases_lt i 60)

-- What a row does not write is zero

data Clean : List Bool → List ℕ → Type 0 where
  none : Clean [] []
  more : {u : Bool} {x : ℕ} {us : List Bool} {xs : List ℕ} → (u ≡ false → x ≡ 0) → Clean us xs → Clean (u ∷ us) (x ∷ xs)

clean_at : {us : List Bool} {xs : List ℕ} → Clean us xs → (i : ℕ) → get_or us i false ≡ false → get_or xs i 0 ≡ 0
clean_at none i e = refl
clean_at (more h c) zero e = h e
clean_at (more h c) (suc i) e = clean_at c i e

-- a used byte may be anything, and so a number that is used
used : {us : List Bool} {xs : List ℕ} {x : ℕ} → Clean us xs → Clean (true ∷ us) (x ∷ xs)
used c = more (λ e. absurd (true≢false e)) c

unused : {us : List Bool} {xs : List ℕ} → Clean us xs → Clean (false ∷ us) (0 ∷ xs)
unused c = more (λ e. refl) c

clean_four : (u : Bool) (n : ℕ) {us : List Bool} {xs : List ℕ} → Clean us xs → Clean (four u us) (spelled (cond u n 0) ++ xs)
clean_four true n c = used (used (used (used c)))
clean_four false n c = unused (unused (unused (unused c)))

clean_used : (ys : List ℕ) {us : List Bool} {xs : List ℕ} → Clean us xs → Clean (replicate (length ys) true ++ us) (ys ++ xs)
clean_used [] c = c
clean_used (y ∷ ys) c = used (clean_used ys c)

clean_zeros : (n : ℕ) {us : List Bool} {xs : List ℕ} → Clean us xs → Clean (replicate n false ++ us) (replicate n 0 ++ xs)
clean_zeros zero c = c
clean_zeros (suc n) c = unused (clean_zeros n c)

clean_change : (u : Bool) (ys : List ℕ) {us : List Bool} {xs : List ℕ} → length ys ≡ 40 → Clean us xs
    → Clean (replicate 40 u ++ us) (cond u ys no_change ++ xs)
clean_change true ys {us} {xs} long c = subst (λ (n : ℕ). Clean (replicate n true ++ us) (ys ++ xs)) long (clean_used ys c)
clean_change false ys long c = clean_zeros 40 c

laid_clean : (f : Fields) → length f.change ≡ 40 → Clean (stencil (uses_of f.kind)) (laid_out (only_used f))
laid_clean f long =
    let u = uses_of f.kind in
    used (more (cond-false u.page f.page 0) (unused (unused
    (clean_four u.job f.job (clean_four u.lrc f.lrc (clean_four u.link f.link
    (clean_change u.change f.change long (clean_four false 0 none))))))))

-- Every slot

pub unused_byte : {C : Type 0} (m : Meaning C) → Lawful m → (s : Slot C) (i : ℕ) → kind_uses_byte (kind_of s) i ≡ false
    → get_or (slot_bytes m s) i 0 ≡ 0
unused_byte m law s i free =
    let f = slot_fields m s in
    let t = told m law s in
    clean_at (laid_clean f t.long) i (not_written f.kind i (ap (λ (k : SlotKind). kind_uses_byte k i) t.row.kind ∙ free))
