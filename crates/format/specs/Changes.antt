-- What a kind of change means, and the laws that every kind keeps. Assumes nothing.
use Rattle.std.specs.Prelude.{◌≡◌, ℕ, List, Some, Option}
use Rattle.format.specs.Bytes.{Bytes}

-- which 40 bytes form a change, the bytes of a change, what content becomes when one is put on it and when it is taken back
pub record Meaning (C : Type 0) : Type 0 where
  pub reads : List ℕ → Option C
  pub bytes : C → List ℕ
  pub put : C → List ℕ → List ℕ
  pub back : C → List ℕ → List ℕ

-- the data bytes of a page
abbrev pub Content : List ℕ → Type 0
Content d = Bytes 252 d

pub record Lawful {C : Type 0} (m : Meaning C) : Type 0 where
  pub bytes_fit : (c : C) → Bytes 40 (m.bytes c)
  pub bytes_read : (c : C) → m.reads (m.bytes c) ≡ Some c
  pub reads_bytes : (b : List ℕ) (c : C) → m.reads b ≡ Some c → m.bytes c ≡ b
  pub put_fits : (c : C) (d : List ℕ) → Content d → Content (m.put c d)
  pub back_fits : (c : C) (d : List ℕ) → Content d → Content (m.back c d)
  pub back_put : (c : C) (d : List ℕ) → Content d → m.back c (m.put c d) ≡ d
