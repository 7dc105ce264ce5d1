use Rattle.std.proofs.Common.{rules}
use Rattle.tables.proofs.Words.{its_hold, with_hold_is}
use Rattle.tables.proofs.jobs.JobTable.hold.Goals as goal

pub returns : goal.returns
returns c = rw (with_hold_is, ← c.self.view_is) (c.change.ensures.items (its_hold c.args.page) (λ x y p. search rules))
