use Rattle.std.proofs.Common.{rules, ◌≡◌, true, length, subst}
use Rattle.rules.specs.Service.{in_store, holds_a_page}
use Rattle.rules.specs.State.{working}
use Rattle.rules.specs.Tables.{is_job, held_by}
use Rattle.calls.specs.Outcomes.{asked, answer}
use Rattle.calls.specs.Parts.{image_in}
use Rattle.calls.proofs.Shipping.{ship_asked}
use Rattle.calls.proofs.state.State.ask_ship.Goals as goal

pub returns-clause-asks : goal.returns-clause-asks
returns-clause-asks g c =
    let w = c.args.self.now in
    let job : is_job c.args.job (working w.memory).jobs ≡ true = search rules in
    let page : in_store w.devices c.args.page ≡ true = search rules in
    let buffer : holds_a_page (length c.args.image.now) ≡ true = search rules in
    let held : held_by c.args.job c.args.page (working w.memory).jobs ≡ true = search rules in
    let whole : c.in_ok-image.image.now ≡ c.args.image.now = search rules in
    ship_asked g.K.Change.meaning c.args.job c.args.page c.args.image.now w.devices (working w.memory) job page buffer held
    (subst (λ image. answer c.ask_image.result ≡ asked (image_in g.K.Change.meaning c.args.page image w.devices (working w.memory))) whole c.ask_image.ensures.asks)
