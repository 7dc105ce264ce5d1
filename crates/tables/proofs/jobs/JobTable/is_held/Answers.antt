use Rattle.std.proofs.Common.{rules}
use borrow.Author.Tests.{tests}
use Rattle.std.proofs.lemmas.Iterator.{YieldsList-from_slice}
use Rattle.std.proofs.lemmas.Iterator.Search.{any_from_yields_List}
use Rattle.tables.proofs.Words.{is_held_is}
use Rattle.tables.proofs.jobs.JobTable.is_held.Goals as goal

pub returns : goal.returns
returns c = rw is_held_is (any_from_yields_List _ _ _ _ c.any.ensures.ran (YieldsList-from_slice c.args.self.now cc) (λ x b q k. search (rules, tests)))
