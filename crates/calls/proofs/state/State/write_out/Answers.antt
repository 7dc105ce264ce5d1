use Rattle.std.proofs.Common.{rules, ◌≡◌, ap, subst, ◌∙◌}
use Rattle.rules.specs.Plans.{write, Did, Failed, next, failed, done, performed}
use Rattle.rules.specs.Runs.{writes_out}
use Rattle.rules.specs.Service.{copy_of}
use Rattle.calls.proofs.Performing.{turned_away, ends_in}
use Rattle.calls.proofs.Serving.{refused_by, served}
use Rattle.calls.proofs.state.State.write_out.Goals as goal

pub returns-in_err-ask_stage : goal.returns-in_err-ask_stage
returns-in_err-ask_stage g c = turned_away g.K.Change.meaning c.from_residual.result (search rules) c.in_err-ask_stage.ensures.refused

pub returns-in_err-ask_write_out : goal.returns-in_err-ask_write_out
returns-in_err-ask_write_out g c =
    let b = c.in_ok-ask_stage.ensures in
    refused_by g.K.Change.meaning (writes_out c.args.page) c.from_residual-in_err-ask_write_out.result b.same b.stage b.power c.in_err-ask_write_out.ensures (search rules)

pub returns-in_err-force : goal.returns-in_err-force
returns-in_err-force g c =
    let m = g.K.Change.meaning in
    let b = c.in_ok-ask_stage.ensures in
    let s = c.self.inside in
    served m s.devices s.stage s.jobs s.dirty s.copies.items s.first (writes_out c.args.page) c.self.view_is b.same b.stage b.power c.in_ok-ask_write_out.ensures
    (ends_in m (search rules) (failed c.in_err-force.ensures))

pub returns-in_err-write : goal.returns-in_err-write
returns-in_err-write g c =
    let m = g.K.Change.meaning in
    let b = c.in_ok-ask_stage.ensures in
    let s = c.self.inside in
    let copy : c.copy_of-copy.result ≡ copy_of s.copies.items c.args.page = c.copy_of-copy.ensures ∙ ap (λ ps. copy_of ps c.args.page) c.deref.ensures.value in
    served m s.devices s.stage s.jobs s.dirty s.copies.items s.first (writes_out c.args.page) c.self.view_is b.same b.stage b.power c.in_ok-ask_write_out.ensures
    (ends_in m (search rules) (next c.in_ok-force.ensures (failed (subst (λ k. Failed m (write c.args.page k) c.force.new.self c.in_err-write.field-0.0 c.write.new.self) copy c.in_err-write.ensures))))

pub returns : goal.returns
returns g c =
    let m = g.K.Change.meaning in
    let b = c.in_ok-ask_stage.ensures in
    let s = c.self.inside in
    let copy : c.copy_of-copy.result ≡ copy_of s.copies.items c.args.page = c.copy_of-copy.ensures ∙ ap (λ ps. copy_of ps c.args.page) c.deref.ensures.value in
    served m s.devices s.stage s.jobs s.dirty s.copies.items s.first (writes_out c.args.page) c.self.view_is b.same b.stage b.power c.in_ok-ask_write_out.ensures
    (performed (next c.in_ok-force.ensures (next (subst (λ k. Did m (write c.args.page k) c.force.new.self c.write.new.self) copy c.in_ok-write.ensures) done)))
