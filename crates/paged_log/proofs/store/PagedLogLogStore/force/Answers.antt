use Rattle.std.proofs.Common.{◌≡◌, true, false, rules}
use Rattle.paged_log.proofs.PagedLogModel.{forced_all}
use Rattle.paged_log.proofs.PagedLogCalls.{force_lost}
use Rattle.paged_log.proofs.store.PagedLogLogStore.force.Goals as goal

pub returns-then-not-is_powered : goal.returns-then-not-is_powered
returns-then-not-is_powered g c =
    let self = c.args.self.now in
    let off : (g.P.PageStore.model self.pages).powered ≡ false = search rules in
    rw c.length.ensures (force_lost (g.P.PageStore.model self.pages) self.len self.last off)

pub returns : goal.returns
returns g c =
    let self = c.args.self.now in
    let on : (g.P.PageStore.model self.pages).powered ≡ true = search rules in
    forced_all (g.P.PageStore.model self.pages) self.len self.last on
