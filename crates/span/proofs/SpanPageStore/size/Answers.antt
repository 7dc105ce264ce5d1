use Rattle.std.proofs.Common.{arith}
use Rattle.span.proofs.SpanSteps.{joined_size}
use Rattle.span.proofs.SpanPageStore.size.Goals as goal

pub returns : goal.returns
returns g c =
    let s = joined_size (g.A.PageStore.model c.args.self.now.first) (g.B.PageStore.model c.args.self.now.second) in omega arith
