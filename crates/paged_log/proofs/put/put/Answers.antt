use Rattle.std.proofs.Common.{ℕ, [], get_or, Result, ap, ◌∙◌, subst}
use Rattle.std.proofs.lemmas.Result.{err_from_is_err_and}
use Rattle.device.specs.declared.page_store.PageFault.{PageFault}
use Rattle.device.specs.PageStores.{PageWritten}
use Rattle.paged_log.specs.PagedLogs.{SlotPut, page_with}
use Rattle.paged_log.proofs.PagedLogWrites.{wrote_slot, room_lost, room_done}
use Rattle.paged_log.proofs.PagedLogModel.{read_page}
use Rattle.paged_log.proofs.put.put.Goals as goal

pub returns-in_err-make_room : goal.returns-in_err-make_room
returns-in_err-make_room g c =
    let p = err_from_is_err_and c.from_residual.result c.from_residual.ensures.1 in
    let pages = (g.P.PageStore.model c.args.pages.now).pages in
    let after = g.P.PageStore.model c.make_room.new.pages in
    rw (p.1, p.2) (subst (λ (r : Result (Unit {0}) PageFault). SlotPut pages c.args.n c.args.slot.now r after) c.in_err-make_room.was
    (room_lost pages c.args.n c.args.slot.now c.make_room.result c.in_err-make_room.field-0.0 after
    c.make_room.ensures c.in_err-make_room.was))

pub returns : goal.returns
returns g c =
    let pages = (g.P.PageStore.model c.args.pages.now).pages in
    let m = g.P.PageStore.model c.make_room.new.pages in
    let m' = g.P.PageStore.model c.write.new.self in
    let bytes = c.in_ok-bytes.bytes in
    let page = c.put.new.self.bytes in
    wrote_slot pages c.args.n c.args.slot.now bytes page m c.write.result m' c.requires.1
    (room_done pages c.args.n c.make_room.result m c.make_room.ensures c.in_ok-make_room.was)
    (read_page m _ c.read.result bytes c.read.ensures c.in_ok-bytes.was ∙ ap (λ (p : ℕ × ℕ). get_or m.pages p.0 []) c.page_and_place-at.ensures)
    (c.put.ensures ∙ ap (λ (p : ℕ × ℕ). page_with bytes p.1 c.args.slot.now) c.page_and_place-at.ensures)
    (subst (λ (p : ℕ × ℕ). PageWritten m p.0 page c.write.result m') c.page_and_place-at.ensures c.write.ensures)
