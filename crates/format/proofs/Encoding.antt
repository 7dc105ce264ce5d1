-- Every slot has one encoding: what is written reads back, and what reads is what is written. Assumes nothing.
use Rattle.std.proofs.Common.{◌≡◌, ℕ, Bool, true, false, cond, not, ◌&&◌, ◌||◌, ltb, leb, List, length, get_or, take, drop, is_ok, IfOk, Ok, Err, Result, sym, refl, ap, ◌∙◌, arith}
use Rattle.std.specs.Option.{option_map_or}
use Rattle.std.proofs.Math.Bool.{and_assoc}
use Rattle.std.proofs.lemmas.Bool.{and_parts, and_from}
use Rattle.std.proofs.lemmas.List.{length-take-le, length-drop}
use Rattle.format.specs.declared.slot.Slot.{Slot}
use Rattle.format.specs.declared.slot.Misfit.{Misfit}
use Rattle.format.specs.declared.slot.Misfit.TheVariants.{UnknownKind}
use Rattle.format.specs.declared.slot.kind.SlotKind.{SlotKind}
use Rattle.format.specs.declared.slot.fields.Fields.{Fields}
use Rattle.format.specs.Bytes.{Bytes}
use Rattle.format.specs.Changes.{Meaning, Lawful}
use Rattle.format.specs.Slots.{kind_numbered, uses_of, fields_of, padding_zero, laid_out, Sized, unused_zero, page_fits, job_ends, job_fits, lrc_fits, least_link, link_fits, in_range, change_fits, fits, slot_of, slot_fields, only_used, slot_bytes, slot_fits, checked, read_slot}
use Rattle.format.proofs.ByKind.{told, only_clean, fields_of_slot, has_slot}
use Rattle.format.proofs.Laid.{fields_laid_out, laid_out_fields}
use Rattle.format.proofs.Reading.{all_asked, is_done, Found, found, found_when}

-- the questions about the fields are those of what is used and of what is in range
checked_when : (size n : ℕ) (f : Fields) → is_ok (checked size n f) ≡ (unused_zero (uses_of f.kind) f && in_range size n f)
checked_when size n f =
    let u = uses_of f.kind in
    all_asked (unused_zero u f) (page_fits size u f) (job_fits n u f) (lrc_fits u f) (link_fits n u f) _ _ _ _ _

not_used : (u : Bool) (x : ℕ) (t : ℕ → Bool) → (not u || t (cond u x 0)) ≡ (not u || t x)
not_used true x t = refl
not_used false x t = refl

-- only the fields that the kind uses count
pub used_in_range : (size n : ℕ) (f : Fields) → in_range size n (only_used f) ≡ in_range size n f
used_in_range size n f =
    let u = uses_of f.kind in
    let page = not_used u.page f.page (λ x. ltb x size) in
    let job = not_used u.job f.job (λ x. leb 1 x && job_ends f.kind x n) in
    let lrc = not_used u.lrc f.lrc (λ x. leb 1 x) in
    let link = not_used u.link f.link (λ x. leb (least_link f.kind) x && ltb x n) in
    λ i. page i && (job i && (lrc i && link i))

module _ {C : Type 0} (m : Meaning C) where
  -- What is written reads back

  -- writing by the table loses nothing
  pub all_used : Lawful m → (s : Slot C) → only_used (slot_fields m s) ≡ slot_fields m s
  all_used law s = let t = told m law s in only_clean (slot_fields m s) t.long t.row.clean

  pub written_reads : Lawful m → (size n : ℕ) (s : Slot C) → Sized (slot_fields m s) → slot_fits m size n s ≡ true
      → read_slot m size n (slot_bytes m s) ≡ Ok s
  written_reads law size n s sized fit =
      let f = slot_fields m s in
      let t = told m law s in
      let done = is_done (checked size n f) (checked_when size n f ∙ and_from _ _ t.row.clean fit) in
      ap (λ (g : Fields). read_slot m size n (laid_out g)) (all_used law s)
      ∙ rw (fields_laid_out f sized, done, t.gives)

  -- What reads is what is written

  module _ (size n : ℕ) (b : List ℕ) where
    -- what was found where the bytes read
    abbrev pub Read : Slot C → Type 0
    Read s = Found (UnknownKind (get_or b 0 0)) (padding_zero b) (λ k. fields_of k b) (checked size n) (slot_of m) (kind_numbered (get_or b 0 0)) s

    pub reads : (s : Slot C) → read_slot m size n b ≡ Ok s → Read s
    reads s r = found (UnknownKind (get_or b 0 0)) (padding_zero b) (λ k. fields_of k b) (checked size n) (slot_of m) (kind_numbered (get_or b 0 0)) s r

    pub read_parts : (s : Slot C) (q : Read s) → (unused_zero (uses_of q.kind) (fields_of q.kind b) ≡ true) × (in_range size n (fields_of q.kind b) ≡ true)
    read_parts s q = let f = fields_of q.kind b in and_parts _ _ (sym (checked_when size n f) ∙ ap is_ok q.check_is)

    read_written : Lawful m → (s : Slot C) → Bytes 60 b → read_slot m size n b ≡ Ok s → slot_bytes m s ≡ b
    read_written law s h r =
        let q = reads s r in
        let f = fields_of q.kind b in
        let long : length (take 40 (drop 16 b)) ≡ 40 = length-take-le 40 (drop 16 b) (rw (length-drop 16 b) (omega arith)) in
        ap laid_out (all_used law s ∙ (fields_of_slot m law f s q.slot_is ∙ only_clean f long (read_parts s q).0))
        ∙ laid_out_fields b h f (rw (q.kind_is, q.padding))

    pub answer_written : Lawful m → Bytes 60 b → (r : Result (Slot C) Misfit) → r ≡ read_slot m size n b → IfOk r (λ s. slot_bytes m s ≡ b)
    answer_written law h (Ok s) e = read_written law s h (sym e)
    answer_written law h (Err why) e = tt

    -- Exactly what fits reads

    pub reads_fit : is_ok (read_slot m size n b) ≡ fits m size n b
    reads_fit =
        let o = kind_numbered (get_or b 0 0) in
        found_when (UnknownKind (get_or b 0 0)) (padding_zero b) (λ k. fields_of k b) (checked size n) (slot_of m) o
        ∙ (λ i. option_map_or (λ (k : SlotKind). padding_zero b && (checked_when size n (fields_of k b) i && has_slot m (fields_of k b) k i)) o false)
        ∙ (λ i. option_map_or (λ (k : SlotKind). padding_zero b && and_assoc (unused_zero (uses_of k) (fields_of k b)) (in_range size n (fields_of k b)) (change_fits m (uses_of k) (fields_of k b)) i) o false)
