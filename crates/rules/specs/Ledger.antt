-- The ledger: a plain machine that is told the calls and their answers, and says what each page should hold. Assumes nothing.
use Rattle.std.specs.Prelude.{ℕ, Bool, false, cond, ◌&&◌, ◌||◌, List, [], ◌∷◌, ◌++◌, replicate, Some, None, Option, ◌==◌}
use Rattle.format.specs.Changes.{Meaning}
use Rattle.recovery_log.specs.Log.{Log, is_committed}

-- an accepted record
pub record Entry (C : Type 0) : Type 0 where
  pub job : ℕ
  pub page : ℕ
  pub change : C

-- the accepted records, the newest first; the jobs whose commit was accepted, or turned out to stand; those whose commit lost power
pub record Ledger (C : Type 0) : Type 0 where
  pub entries : List (Entry C)
  pub kept : List ℕ
  pub doubtful : List ℕ

abbrev pub is_in : ℕ → List ℕ → Bool
is_in j [] = false
is_in j (k ∷ ks) = k == j || is_in j ks

module _ {C : Type 0} where
  abbrev pub empty : Ledger C
  empty = record { entries = []; kept = []; doubtful = [] }

  abbrev pub with_entry : ℕ → ℕ → Option C → Ledger C → Ledger C
  with_entry j p None h = h
  with_entry j p (Some c) h = record { entries = record { job = j; page = p; change = c } ∷ h.entries; kept = h.kept; doubtful = h.doubtful }

  abbrev pub with_kept : ℕ → Ledger C → Ledger C
  with_kept j h = record { entries = h.entries; kept = j ∷ h.kept; doubtful = h.doubtful }

  abbrev pub with_doubt : ℕ → Ledger C → Ledger C
  with_doubt j h = record { entries = h.entries; kept = h.kept; doubtful = j ∷ h.doubtful }

  abbrev pub committed_of : Log C → List ℕ → List ℕ
  committed_of L [] = []
  committed_of L (j ∷ js) = cond (is_committed L j) (j ∷ committed_of L js) (committed_of L js)

  -- a doubtful job is kept exactly when its commit is in the log that is left
  abbrev pub settled : Log C → Ledger C → Ledger C
  settled L h = record { entries = h.entries; kept = committed_of L h.doubtful ++ h.kept; doubtful = [] }

  -- the changes of kept jobs on the page, put on zeros in the order in which they were accepted
  abbrev pub content_by : Meaning C → List ℕ → ℕ → List (Entry C) → List ℕ
  content_by m kept p [] = replicate 252 0
  content_by m kept p (e ∷ es) = cond (e.page == p && is_in e.job kept) (m.put e.change (content_by m kept p es)) (content_by m kept p es)

  abbrev pub content_of : Meaning C → Ledger C → ℕ → List ℕ
  content_of m h p = content_by m h.kept p h.entries
