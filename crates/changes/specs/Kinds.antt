-- What the kinds of change have in common: the bytes of a change are its only form, and it rewrites one part of the content.
-- Assumes nothing.
use Rattle.std.specs.Prelude.{◌≡◌, ℕ, Bool, true, false, cond, List, Some, None, Option, refl}
use Rattle.std.specs.Str.{bytes_eq}
use Rattle.format.specs.Bytes.{rewritten}
use Rattle.format.specs.Changes.{Meaning}

-- a value that is made only if a test holds
abbrev pub checked : {C : Type 0} (t : Bool) → (t ≡ true → C) → Option C
checked true make = Some (make refl)
checked false make = None

pub record Kind (C : Type 0) : Type 0 where
  -- the 40 bytes of a change
  pub bytes : C → List ℕ
  -- the change whose fields stand at their places in 40 bytes, if they are in range
  pub fields : List ℕ → Option C
  -- the part of the content that a change rewrites, and what it becomes
  pub place : C → ℕ
  pub width : C → ℕ
  pub forth : C → List ℕ → List ℕ
  pub back : C → List ℕ → List ℕ

-- the change that was read, if these are its bytes
abbrev pub only_form : {C : Type 0} → (C → List ℕ) → List ℕ → Option C → Option C
only_form bytes b (Some c) = cond (bytes_eq (bytes c) b) (Some c) None
only_form bytes b None = None

-- 40 bytes form a change if they are the bytes of the change whose fields stand in them
abbrev pub meaning_of : {C : Type 0} → Kind C → Meaning C
meaning_of k = record {
  reads = λ b. only_form k.bytes b (k.fields b);
  bytes = k.bytes;
  put = λ c. rewritten (k.place c) (k.width c) (k.forth c);
  back = λ c. rewritten (k.place c) (k.width c) (k.back c);
}
