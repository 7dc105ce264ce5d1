use Rattle.std.proofs.Common.{◌≡◌, ℕ, suc, true, [], get_or, Ok, refl, ap, ◌∙◌, rules, arith}
use Rattle.device.specs.LogStores.{SlotRead}
use Rattle.paged_log.specs.PagedLogs.{slot_in}
use Rattle.paged_log.proofs.PagedLogModel.{slots_size, read_slot, read_page}
use Rattle.paged_log.proofs.store.PagedLogLogStore.read.Goals as goal

pub returns-then-n-length : goal.returns-then-n-length
returns-then-n-length g c =
    let self = c.args.self.now in
    let size = slots_size (g.P.PageStore.model self.pages) self.len self.last in
    let on : (g.P.PageStore.model self.pages).powered ≡ true = search rules in
    let next : c.args.slot ≡ suc c.in_ok-n.n = grind arith in
    SlotRead.outside on (omega arith) refl

pub returns : goal.returns
returns g c =
    let self = c.args.self.now in
    let m = g.P.PageStore.model self.pages in
    let on : (g.P.PageStore.model self.pages).powered ≡ true = search rules in
    let next : c.args.slot ≡ suc c.in_ok-n.n = grind arith in
    let bytes = c.in_ok-bytes.bytes in
    let was : c.read.result ≡ Ok bytes = search rules in
    rw next (read_slot m self.len self.last on c.in_ok-n.n bytes c.slot.result (omega arith)
    (read_page m _ c.read.result bytes c.read.ensures was ∙ ap (λ (p : ℕ × ℕ). get_or m.pages p.0 []) c.page_and_place-at.ensures)
    (c.slot.ensures ∙ ap (λ (p : ℕ × ℕ). slot_in bytes p.1) c.page_and_place-at.ensures))
