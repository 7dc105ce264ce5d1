use Rattle.std.proofs.Common.{rules, slice_set, ap, ◌∙◌}
use Rattle.std.proofs.lemmas.List.{with_items_is}
use Rattle.rules.specs.Runs.{ships}
use Rattle.calls.specs.declared.state.Stage.TheVariants.{Serving}
use Rattle.calls.proofs.Performing.{turned_away}
use Rattle.calls.proofs.Serving.{refused_by, served}
use Rattle.calls.proofs.Shipping.{takes_image}
use Rattle.calls.proofs.Stages.{stays_at}
use Rattle.calls.proofs.state.State.ship.Goals as goal

pub returns-in_err-ask_stage : goal.returns-in_err-ask_stage
returns-in_err-ask_stage g c = turned_away g.K.Change.meaning c.from_residual.result (search rules) c.in_err-ask_stage.ensures.refused

pub returns-in_err-copy : goal.returns-in_err-copy
returns-in_err-copy g c =
    let b = c.in_ok-ask_stage.ensures in
    refused_by g.K.Change.meaning (ships c.args.job c.args.page c.args.image.now) c.from_residual-in_err-copy.result b.same b.stage b.power c.in_err-copy.ensures.asks (search rules)

pub returns : goal.returns
returns g c =
    let m = g.K.Change.meaning in
    let b = c.in_ok-ask_stage.ensures in
    let s = c.self.inside in
    served m s.devices s.stage s.jobs s.dirty s.copies.items s.first (ships c.args.job c.args.page c.args.image.now) c.self.view_is b.same b.stage b.power c.in_ok-copy.ensures.asks
    (takes_image m _ _ c.args.page c.args.image.now (stays_at s.devices s.stage s.jobs s.dirty s.copies.items s.first c.self.view_is b.same Serving b.stage s.jobs _)
    (with_items_is s.copies c.set_copy.new.copies (c.set_copy.auto.copies ∙ c.deref_mut.ensures.len) ∙ (c.set_copy.ensures
    ∙ (ap (λ cs. slice_set cs c.args.page c.in_ok-copy.copy) c.deref_mut.ensures.value ∙ ap (slice_set s.copies.items c.args.page) c.in_ok-copy.ensures.value))))
