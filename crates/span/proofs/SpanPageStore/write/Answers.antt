use Rattle.std.proofs.Common.{◌≡◌, rules, ℕ, Ok, subst}
use Rattle.device.specs.PageStores.{PageWritten}
use Rattle.span.specs.declared.Half.TheVariants.{First, Second}
use Rattle.span.proofs.SpanSteps.{in_first, in_second, wrote_first, wrote_second, at_page}
use Rattle.span.proofs.SpanPageStore.write.Goals as goal

pub returns-in-First : goal.returns-in-First
returns-in-First g c =
    let a = g.A.PageStore.model c.args.self.now.first in
    let b = g.B.PageStore.model c.args.self.now.second in
    let first : c.find.result ≡ Ok First = search rules in
    let found = in_first a b c.args.page c.find.result c.find.ensures first in
    wrote_first a b found.0 c.args.page found.1 found.2 c.args.bytes.now c.write.result (g.A.PageStore.model c.write.new.self) c.write.ensures

pub returns-in-Second : goal.returns-in-Second
returns-in-Second g c =
    let a = g.A.PageStore.model c.args.self.now.first in
    let b = g.B.PageStore.model c.args.self.now.second in
    let b' = g.B.PageStore.model c.write-in-Second.new.self in
    let second : c.find.result ≡ Ok (Second c.in-Second.n) = search rules in
    let found = in_second a b c.args.page c.in-Second.n c.find.result c.find.ensures second in
    let wrote = subst (λ (n : ℕ). PageWritten b n c.args.bytes.now c.write-in-Second.result b') found.3 c.write-in-Second.ensures in
    let named : c.map_err.result ≡ at_page c.write-in-Second.result c.args.page = search rules in
    rw named (wrote_second a b found.0 c.args.page found.1 found.2 c.args.bytes.now c.write-in-Second.result b' wrote)
