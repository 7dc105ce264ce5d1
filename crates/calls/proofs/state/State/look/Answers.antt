use Rattle.std.proofs.Common.{rules, ◌≡◌, ap, ◌∙◌}
use Rattle.format.specs.Pages.{page_bytes}
use Rattle.rules.specs.Plans.{done, performed}
use Rattle.rules.specs.Runs.{looks}
use Rattle.rules.specs.Service.{copy_of}
use Rattle.calls.specs.declared.state.Stage.TheVariants.{Serving}
use Rattle.calls.proofs.Performing.{turned_away}
use Rattle.calls.proofs.Serving.{refused_by, served}
use Rattle.calls.proofs.Stages.{opened}
use Rattle.calls.proofs.state.State.look.Goals as goal

pub returns-in_err-ask_stage : goal.returns-in_err-ask_stage
returns-in_err-ask_stage g c = turned_away g.K.Change.meaning c.from_residual.result (search rules) c.in_err-ask_stage.ensures.refused

pub returns-in_err-ask_look : goal.returns-in_err-ask_look
returns-in_err-ask_look g c =
    let b = c.in_ok-ask_stage.ensures in
    refused_by g.K.Change.meaning (looks c.args.page c.args.buffer_length) c.from_residual-in_err-ask_look.result b.same b.stage b.power c.in_err-ask_look.ensures (search rules)

pub returns : goal.returns
returns g c =
    let b = c.in_ok-ask_stage.ensures in
    let s = c.self.inside in
    let bytes : c.to_bytes.result ≡ page_bytes (copy_of s.copies.items c.args.page) = c.to_bytes.ensures.value ∙ ap page_bytes (c.copy_of.ensures ∙ ap (λ ps. copy_of ps c.args.page) c.deref.ensures.value) in
    served g.K.Change.meaning s.devices s.stage s.jobs s.dirty s.copies.items s.first (looks c.args.page c.args.buffer_length) c.self.view_is b.same b.stage b.power c.in_ok-ask_look.ensures
    (rw (bytes, b.same ∙ opened s.devices s.stage s.jobs s.dirty s.copies.items s.first c.self.view_is b.same Serving b.stage) (performed done))
