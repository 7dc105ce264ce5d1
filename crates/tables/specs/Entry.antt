-- What a change makes of the entries of a job. Assumes nothing.
use Rattle.std.specs.Prelude.{◌≡◌, ℕ, cond, ◌==◌}
use Rattle.std.specs.Borrow.{MutBor}
use Rattle.rules.specs.declared.table.JobEntry.{JobEntry}

-- what such a call leaves of an entry is f of it
abbrev pub Makes : (MutBor JobEntry → Unit {0} → MutBor JobEntry → Type 0) → (JobEntry → JobEntry) → Type 0
Makes call f = (x y : MutBor JobEntry) → call x tt y → y.now ≡ f x.now

-- an entry of the job changed; any other stays
abbrev pub of_job : ℕ → (JobEntry → JobEntry) → JobEntry → JobEntry
of_job j f x = cond (x.job == j) (f x) x
