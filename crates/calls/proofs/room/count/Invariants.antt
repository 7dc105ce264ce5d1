use Rattle.std.proofs.Common.{◌≡◌, ◌==◌, ◌<◌, ◌≤◌, ℕ, cond, slice_index}
use Rattle.calls.specs.Readers.{counted, job_at}
use Rattle.calls.proofs.room.count.Given as goal

-- the counts before the place are those after the record, the others those before
abbrev pub invariant-loop-place : goal.invariant-loop-place
invariant-loop-place l = record {
  done : (i : ℕ) → i < l.place → slice_index l.counts i ≡ cond (l.job == job_at l.jobs i) (counted l.action (slice_index l.fn.counts i)) (slice_index l.fn.counts i);
  rest : (i : ℕ) → l.place ≤ i → slice_index l.counts i ≡ slice_index l.fn.counts i;
}
