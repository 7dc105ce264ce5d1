-- The laws of a kind of change, from what is special to the kind.
use Rattle.std.specs.Prelude.{◌≡◌, ℕ, ◌+◌, ◌≤◌, Bool, true, false, cond, List, take, drop, is_some, Some, None, Option, ◌≢◌, refl}
use Rattle.std.proofs.Common.{ap, arith}
use Rattle.std.proofs.Math.Bool.{Bool-set}
use Rattle.std.specs.Str.{bytes_eq}
use Rattle.std.proofs.lemmas.Slice.Eq.{bytes_eq-Decides}
use Rattle.std.proofs.lemmas.Bool.{cond-true, cond-false}
use Rattle.format.specs.Bytes.{Bytes}
use Rattle.format.specs.Changes.{Lawful, Content}
use Rattle.changes.specs.Kinds.{Kind, checked, only_form, meaning_of}
use Rattle.format.proofs.Rows.{bytes_part}
use Rattle.changes.specs.Rewrites.{rewritten_fits, rewritten_back}

pub checked_is : {C : Type 0} (t : Bool) (make : t ≡ true → C) (e : t ≡ true) → Some (make e) ≡ checked t make
checked_is true make e = ap (λ q. Some (make q)) (Bool-set true true e refl)
checked_is false make e = let z : ◌≡◌ {A = ℕ} 0 1 = cc in absurd (omega arith)

pub checked_made : {C : Type 0} (t : Bool) (make : t ≡ true → C) (c : C) → checked t make ≡ Some c → (e : t ≡ true) × (make e ≡ c)
checked_made true make c q = (refl, cc)
checked_made false make c q = let z : ◌≡◌ {A = ℕ} 0 1 = cc in absurd (omega arith)

pub checked_some : {C : Type 0} (t : Bool) (make : t ≡ true → C) → is_some (checked t make) ≡ t
checked_some true make = refl
checked_some false make = refl

module _ {C : Type 0} (bytes : C → List ℕ) (b : List ℕ) where
  pub own_form : (o : Option C) (c : C) → o ≡ Some c → bytes c ≡ b → only_form bytes b o ≡ Some c
  own_form o c e h = rw e (cond-true _ _ _ ((bytes_eq-Decides (bytes c) b).1 h))

  pub form_only : (o : Option C) (c : C) → only_form bytes b o ≡ Some c → bytes c ≡ b
  form_only None c e = let z : ◌≡◌ {A = ℕ} 0 1 = cc in absurd (omega arith)
  form_only (Some x) c e = go (bytes_eq (bytes x) b) refl e
    where
      go : (t : Bool) → bytes_eq (bytes x) b ≡ t → cond t (Some x) None ≡ Some c → bytes c ≡ b
      go true s q = let w = (bytes_eq-Decides (bytes x) b).0 s in cc
      go false s q = let z : ◌≡◌ {A = ℕ} 0 1 = cc in absurd (omega arith)

  -- bytes that are those of the change read from them
  pub form_kept : (o : Option C) → ((c : C) → o ≡ Some c → bytes c ≡ b) → only_form bytes b o ≡ o
  form_kept None h = refl
  form_kept (Some x) h = own_form (Some x) x refl (h x refl)

  -- bytes that are those of no change
  pub form_none : (o : Option C) → ((c : C) → bytes c ≢ b) → only_form bytes b o ≡ None
  form_none None h = refl
  form_none (Some x) h = cond-false _ _ _ (go (bytes_eq (bytes x) b) refl)
    where
      go : (t : Bool) → bytes_eq (bytes x) b ≡ t → bytes_eq (bytes x) b ≡ false
      go true e = absurd (h x ((bytes_eq-Decides (bytes x) b).0 e))
      go false e = e

-- what is left to show of a kind
pub record Sound {C : Type 0} (k : Kind C) : Type 0 where
  pub bytes_fit : (c : C) → Bytes 40 (k.bytes c)
  pub fields_stand : (c : C) → k.fields (k.bytes c) ≡ Some c
  pub inside : (c : C) → k.place c + k.width c ≤ 252
  pub forth_fits : (c : C) (xs : List ℕ) → Bytes (k.width c) xs → Bytes (k.width c) (k.forth c xs)
  pub back_fits : (c : C) (xs : List ℕ) → Bytes (k.width c) xs → Bytes (k.width c) (k.back c xs)
  pub undone : (c : C) (xs : List ℕ) → Bytes (k.width c) xs → k.back c (k.forth c xs) ≡ xs

module _ {C : Type 0} (k : Kind C) (s : Sound k) where
  part : (c : C) (d : List ℕ) → Content d → Bytes (k.width c) (take (k.width c) (drop (k.place c) d))
  part c d p = bytes_part (k.place c) (k.width c) 252 d (s.inside c) p

  pub kind_lawful : Lawful (meaning_of k)
  kind_lawful = record {
    bytes_fit = s.bytes_fit;
    bytes_read = λ c. own_form k.bytes (k.bytes c) (k.fields (k.bytes c)) c (s.fields_stand c) refl;
    reads_bytes = λ b c e. form_only k.bytes b (k.fields b) c e;
    put_fits = λ c d p. rewritten_fits (k.place c) (k.width c) (k.forth c) d 252 (s.inside c) p (s.forth_fits c _ (part c d p));
    back_fits = λ c d p. rewritten_fits (k.place c) (k.width c) (k.back c) d 252 (s.inside c) p (s.back_fits c _ (part c d p));
    back_put = λ c d p. rewritten_back (k.place c) (k.width c) (k.forth c) d (k.back c) (omega (arith, p.size, s.inside c)) (s.forth_fits c _ (part c d p)).size (s.undone c _ (part c d p));
  }
