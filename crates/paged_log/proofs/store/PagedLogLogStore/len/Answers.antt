use Rattle.std.proofs.Common.{◌≡◌, true, Ok, sym, ap, ◌∙◌, rules}
use Rattle.device.specs.LogStores.{LengthRead}
use Rattle.paged_log.proofs.PagedLogModel.{slots_size}
use Rattle.paged_log.proofs.store.PagedLogLogStore.len.Goals as goal

pub returns : goal.returns
returns g c =
    let self = c.args.self.now in
    let on : (g.P.PageStore.model self.pages).powered ≡ true = search rules in
    LengthRead.done on (ap Ok (c.length.ensures ∙ sym (slots_size (g.P.PageStore.model self.pages) self.len self.last)))
