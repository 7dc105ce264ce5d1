-- The fields of 60 bytes, read and laid out again. Assumes nothing.
use Rattle.std.proofs.Common.{◌≡◌, ℕ, ◌-◌, ◌≤◌, Bool, true, false, List, [], ◌∷◌, ◌++◌, get_or, take, drop, Some, None, Ok, Option, sym, refl, ap, ◌∙◌, arith, lit≤}
use Rattle.std.specs.Option.{ok_or}
use Rattle.std.proofs.lemmas.Bool.Decides.{nat_tests}
use Rattle.std.proofs.lemmas.List.{drop-drop, take_at, take-append-drop, drop_more, drop_all, get_or-append_right}
use Rattle.format.specs.declared.slot.Misfit.TheVariants.{UnknownKind, UnusedNotZero}
use Rattle.format.specs.declared.slot.kind.SlotKind.{SlotKind}
use Rattle.format.specs.declared.slot.fields.Fields.{Fields}
use Rattle.format.specs.Bytes.{Bytes, number_at, spelled}
use Rattle.format.specs.Slots.{kind_number, kind_numbered, fields_of, padding_zero, laid_out, Sized, ◌>>=◌, asked, read_fields}
use Rattle.format.proofs.Numbers.{number_spelled, spelled_at}
use Rattle.format.proofs.ByKind.{number_kind, numbered_kind}

padding_parts : (b : List ℕ) → padding_zero b ≡ true → (get_or b 2 0 ≡ 0) × (get_or b 3 0 ≡ 0) × (number_at b 56 ≡ 0)
padding_parts b e = (grind (arith, nat_tests), grind (arith, nat_tests), grind (arith, nat_tests))

pub padding_laid_out : (f : Fields) → Sized f → padding_zero (laid_out f) ≡ true
padding_laid_out f h = rw (past 40 (lit≤ tt), past 41 (lit≤ tt), past 42 (lit≤ tt), past 43 (lit≤ tt))
  where
    past : (i : ℕ) → 40 ≤ i → get_or (f.change ++ 0 ∷ 0 ∷ 0 ∷ 0 ∷ []) i 0 ≡ get_or (0 ∷ 0 ∷ 0 ∷ 0 ∷ []) (i - 40) 0
    past i le = get_or-append_right f.change (0 ∷ 0 ∷ 0 ∷ 0 ∷ []) 40 i 0 h.change le

-- laid out, then read
pub fields_laid_out : (f : Fields) → Sized f → read_fields (laid_out f) ≡ Ok f
fields_laid_out f h =
    let j = number_spelled f.job h.job in
    let l = number_spelled f.lrc h.lrc in
    let k = number_spelled f.link h.link in
    let c = take_at f.change (0 ∷ 0 ∷ 0 ∷ 0 ∷ []) 40 h.change in
    rw (number_kind f.kind, padding_laid_out f h)
    (λ i. Ok (record { kind = f.kind; page = f.page; job = j i; lrc = l i; link = k i; change = c i }))

-- laid out under any kind, the bytes behind the kind's number are those that the fields were taken from
pub laid_out_behind : (k : SlotKind) (b : List ℕ) → Bytes 60 b → padding_zero b ≡ true → laid_out (fields_of k b) ≡ kind_number k ∷ drop 1 b
laid_out_behind k b h p =
    let z = padding_parts b p in
    let s1 = drop_more b 1 0 (omega arith) in
    let s2 = drop_more b 2 0 (omega arith) in
    let s3 = drop_more b 3 0 (omega arith) in
    let s4 = spelled_at b 4 h.small (omega arith) in
    let s8 = spelled_at b 8 h.small (omega arith) in
    let s12 = spelled_at b 12 h.small (omega arith) in
    let s16 : take 40 (drop 16 b) ++ drop 56 b ≡ drop 16 b = rw (sym (drop-drop 40 16 b)) (take-append-drop 40 (drop 16 b)) in
    let s56 = spelled_at b 56 h.small (omega arith) in
    let s60 = drop_all 60 b (omega arith) in
    let t : 0 ∷ 0 ∷ 0 ∷ 0 ∷ [] ≡ drop 56 b =
    ap (λ (n : ℕ). spelled n ++ []) (sym z.2) ∙ (ap (λ (xs : List ℕ). spelled (number_at b 56) ++ xs) (sym s60) ∙ s56) in
    cc (z.0, z.1)

-- read, then laid out
pub laid_out_fields : (b : List ℕ) → Bytes 60 b → (f : Fields) → read_fields b ≡ Ok f → laid_out f ≡ b
laid_out_fields b h f e = go (kind_numbered (get_or b 0 0)) (padding_zero b) refl refl e
  where
    go : (o : Option SlotKind) (p : Bool) → kind_numbered (get_or b 0 0) ≡ o → padding_zero b ≡ p
        → (ok_or o (UnknownKind (get_or b 0 0)) >>= λ k. asked p UnusedNotZero >>= λ _. Ok (fields_of k b)) ≡ Ok f → laid_out f ≡ b
    go None p of_kind padding read = let z : ◌≡◌ {A = ℕ} 0 1 = cc in absurd (omega arith)
    go (Some k) false of_kind padding read = let z : ◌≡◌ {A = ℕ} 0 1 = cc in absurd (omega arith)
    go (Some k) true of_kind padding read =
        let behind = laid_out_behind k b h padding in
        let first = numbered_kind (get_or b 0 0) k of_kind in
        let whole = drop_more b 0 0 (omega (arith, h.size)) in
        cc
