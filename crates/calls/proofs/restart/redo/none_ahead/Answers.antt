use borrow.Author.Tests.{tests}
use Rattle.std.proofs.Common.{rules}
use Rattle.std.proofs.lemmas.Iterator.{YieldsList-from_slice}
use Rattle.std.proofs.lemmas.Iterator.Search.{all_from_yields_List}
use Rattle.calls.proofs.Redoing.{none_ahead_is}
use Rattle.calls.proofs.restart.redo.none_ahead.Goals as goal

pub returns : goal.returns
returns c = rw none_ahead_is (all_from_yields_List _ _ _ _ c.all.ensures.ran (YieldsList-from_slice c.args.copies.now cc) (λ x b q k. search (rules, tests)))
