use Rattle.std.proofs.Common.{◌≡◌, ltb, refl, rules}
use borrow.Author.Tests.{tests}
use Rattle.std.specs.List.{insert}
use Rattle.std.proofs.lemmas.Iterator.{YieldsList-from_slice}
use Rattle.std.proofs.lemmas.Iterator.Search.{position_from_yields_List}
use Rattle.rules.specs.Tables.{entered}
use Rattle.tables.proofs.Words.{entered_is, first_place}
use Rattle.tables.proofs.jobs.JobTable.enter.Goals as goal

pub returns : goal.returns
returns c = let e = c.args.entry in let xs = c.self.inside.entries.list.items in
    let at = position_from_yields_List (λ x. ltb e.job x.job) _ _ c.position.result c.position.ensures.ran (YieldsList-from_slice xs cc) (λ x b q k. search (rules, tests)) in
    let goes : insert xs c.unwrap_or-place.result e ≡ entered e xs = rw (entered_is, ← first_place, ← at, c.unwrap_or-place.ensures, c.len.ensures, c.self.inside.entries.list.ok.0) refl in
    search rules
