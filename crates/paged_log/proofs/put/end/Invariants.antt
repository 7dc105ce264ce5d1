use Rattle.std.proofs.Common.{ℕ, ◌<◌, ◌≤◌, [], get_or}
use Rattle.paged_log.specs.PagedLogs.{count_of}
use Rattle.paged_log.proofs.put.end.Given as goal

-- the pages so far are full
abbrev pub invariant-loop-at : goal.invariant-loop-at
invariant-loop-at g l = (k : ℕ) → k < l.at → 4 ≤ count_of (get_or (g.P.PageStore.model l.pages).pages k [])
