use Rattle.std.proofs.Common.{rules}
use Rattle.tables.proofs.Words.{its_next, with_next_is}
use Rattle.tables.proofs.jobs.JobTable.set_next.Goals as goal

pub returns : goal.returns
returns c = rw (with_next_is, ← c.self.view_is) (c.change.ensures.items (its_next c.args.next) (λ x y p. search rules))
