use Rattle.std.proofs.Common.{rules, ◌≡◌, Err}
use Rattle.rules.specs.State.{working}
use Rattle.calls.specs.Outcomes.{answer}
use Rattle.calls.proofs.Shipping.{image_asked}
use Rattle.calls.proofs.state.State.ask_image.Goals as goal

pub returns-in_err-check-3-clause-asks : goal.returns-in_err-check-3-clause-asks
returns-in_err-check-3-clause-asks g c =
    let w = c.args.self.now in
    let says : answer c.from_residual-in_err-check-3.result ≡ Err c.in_err-check-3.field-0.0 = search rules in
    rw says (image_asked g.K.Change.meaning w.devices (working w.memory) c.args.page c.args.image.now c.from_bytes-shipped.ensures.value c.working_copy-copy.ensures
    c.expect-expected.ensures.last c.expect-expected.ensures.copy c.in_ok-check.ensures c.in_ok-check-2.ensures c.is_image.ensures c.in_err-check-3.ensures)

pub returns-clause-asks : goal.returns-clause-asks
returns-clause-asks g c =
    let w = c.args.self.now in
    image_asked g.K.Change.meaning w.devices (working w.memory) c.args.page c.args.image.now c.from_bytes-shipped.ensures.value c.working_copy-copy.ensures
    c.expect-expected.ensures.last c.expect-expected.ensures.copy c.in_ok-check.ensures c.in_ok-check-2.ensures c.is_image.ensures c.in_ok-check-3.ensures
