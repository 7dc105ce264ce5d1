use Rattle.std.proofs.Common.{◌∙◌, None, Some, rules}
use borrow.Author.Tests.{tests}
use Rattle.std.proofs.lemmas.Iterator.Adapters.{YieldsList-from_rev_slice}
use Rattle.std.proofs.lemmas.Iterator.Consumers.{fold_from_yields_List}
use Rattle.rules.specs.Restart.{latest_of}
use Rattle.tables.proofs.Words.{latest_is}
use Rattle.tables.proofs.jobs.JobTable.latest.Goals as goal

pub returns : goal.returns
returns c = fold_from_yields_List _ (λ best x. Some (latest_of x best)) None c.fold.result c.fold.ensures.ran (YieldsList-from_rev_slice c.args.self.now cc) (λ a x b q k. search (rules, tests)) ∙ latest_is c.args.self.now
