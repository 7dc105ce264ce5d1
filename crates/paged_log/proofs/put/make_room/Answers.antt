use Rattle.std.proofs.Common.{ℕ, ◌+◌, [], get_or, sym, refl, ap, ◌∙◌, add-one, arith}
use Rattle.std.proofs.lemmas.Slice.Eq.{slice_eq-Decides}
use Rattle.paged_log.specs.PagedLogs.{Made, blank}
use Rattle.paged_log.proofs.PagedLogWrites.{room_blank, wrote_room}
use Rattle.paged_log.proofs.PagedLogModel.{read_page}
use Rattle.paged_log.proofs.put.make_room.Goals as goal
use Rattle.std.proofs.lemmas.Bool.Decides.{Decides-eqb}

pub returns-then-eq : goal.returns-then-eq
returns-then-eq g c =
    let m = g.P.PageStore.model c.args.pages.now in
    let read = read_page m _ c.read.result c.in_ok-bytes.bytes c.read.ensures c.in_ok-bytes.was in
    let same = (slice_eq-Decides Decides-eqb c.in_ok-bytes.bytes blank c.eq.result c.eq.ensures).0 c.if-eq.true in
    let next = ap (λ (p : ℕ × ℕ). p.0 + 1) c.page_and_place-at.ensures ∙ add-one _ in
    Made.done refl (room_blank m c.args.n c.requires.0 (ap (λ (k : ℕ). get_or m.pages k []) (sym next) ∙ sym read ∙ same))

pub returns : goal.returns
returns g c =
    let at = ap (λ (p : ℕ × ℕ). p.0) c.page_and_place-at.ensures in
    let place = ap (λ (p : ℕ × ℕ). p.1) c.page_and_place-at.ensures in
    wrote_room (g.P.PageStore.model c.args.pages.now) c.args.n _ c.write.result
    (g.P.PageStore.model c.write.new.self) c.requires.0 (omega arith) (omega arith) (omega arith) c.write.ensures
