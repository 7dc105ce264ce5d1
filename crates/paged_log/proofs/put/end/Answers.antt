use Rattle.std.proofs.Common.{ℕ, ◌<◌, ap, ◌∙◌, subst, arith}
use Rattle.paged_log.specs.PagedLogs.{count_of}
use Rattle.paged_log.proofs.PagedLogEnds.{length_at, length_full}
use Rattle.paged_log.proofs.PagedLogModel.{read_page}
use Rattle.paged_log.proofs.put.end.Goals as goal

pub returns-then-count-lt4 : goal.returns-then-count-lt4
returns-then-count-lt4 g c =
    let m = g.P.PageStore.model c.args.pages.now in
    let count = c.count-count.ensures ∙ ap count_of (read_page m c.loop-at.at c.read.result c.unwrap-bytes.result c.read.ensures c.unwrap-bytes.ensures) in
    let ends = length_at m.pages c.loop-at.at (omega arith) c.loop-at.invariant (subst (λ (n : ℕ). n < 4) count c.if-count-lt4.true) in
    omega arith

pub returns : goal.returns
returns g c =
    let all = length_full (g.P.PageStore.model c.args.pages.now).pages (λ k l. c.loop-at.invariant k (omega arith)) in omega arith
