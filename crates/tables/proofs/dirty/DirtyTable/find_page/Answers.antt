use Rattle.std.proofs.Common.{rules}
use borrow.Author.Tests.{tests}
use Rattle.std.proofs.lemmas.Iterator.{YieldsList-from_slice}
use Rattle.std.proofs.lemmas.Iterator.Search.{find_from_yields_List}
use Rattle.tables.proofs.Words.{find_page_is}
use Rattle.tables.proofs.dirty.DirtyTable.find_page.Goals as goal

pub returns : goal.returns
returns c = rw find_page_is (find_from_yields_List _ _ _ _ c.find.ensures.ran (YieldsList-from_slice c.args.self.now cc) (λ x b q k. search (rules, tests)))
