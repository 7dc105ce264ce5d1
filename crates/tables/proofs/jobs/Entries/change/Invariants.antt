use Rattle.std.proofs.Common.{◌≡◌, ◌++◌, take, drop, map, vec_len, vec_capacity}
use Rattle.rules.specs.declared.table.JobEntry.{JobEntry}
use Rattle.tables.specs.Entry.{Makes, of_job}
use Rattle.tables.proofs.jobs.Entries.change.Given as goal

-- the entries before the place are changed
abbrev pub invariant-loop-place : goal.invariant-loop-place
invariant-loop-place g l = record {
  F-IsAlwaysCallable : goal.F-IsAlwaysCallable g l.change;
  items : (f : JobEntry → JobEntry) → Makes (goal.F-post g l.change) f
      → l.self.list.items ≡ map (of_job l.job f) (take l.place l.fn.self.list.items) ++ drop l.place l.fn.self.list.items;
  len : vec_len l.self.list ≡ vec_len l.fn.self.list;
  capacity : vec_capacity l.self.list ≡ vec_capacity l.fn.self.list;
}
