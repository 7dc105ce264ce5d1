use Rattle.std.proofs.Common.{◌≡◌, rules, ℕ, Ok, subst}
use Rattle.device.specs.PageStores.{PageRead}
use Rattle.span.specs.declared.Half.TheVariants.{First, Second}
use Rattle.span.proofs.SpanSteps.{in_first, in_second, read_first, read_second, at_page}
use Rattle.span.proofs.SpanPageStore.read.Goals as goal

pub returns-in-First : goal.returns-in-First
returns-in-First g c =
    let a = g.A.PageStore.model c.args.self.now.first in
    let b = g.B.PageStore.model c.args.self.now.second in
    let first : c.find.result ≡ Ok First = search rules in
    let found = in_first a b c.args.page c.find.result c.find.ensures first in
    read_first a b found.0 c.args.page found.1 found.2 c.read.result c.read.ensures

pub returns-in-Second : goal.returns-in-Second
returns-in-Second g c =
    let a = g.A.PageStore.model c.args.self.now.first in
    let b = g.B.PageStore.model c.args.self.now.second in
    let second : c.find.result ≡ Ok (Second c.in-Second.n) = search rules in
    let found = in_second a b c.args.page c.in-Second.n c.find.result c.find.ensures second in
    let read = subst (λ (n : ℕ). PageRead b n c.read-in-Second.result) found.3 c.read-in-Second.ensures in
    let named : c.map_err.result ≡ at_page c.read-in-Second.result c.args.page = search rules in
    rw named (read_second a b found.0 c.args.page found.1 found.2 c.read-in-Second.result read)
