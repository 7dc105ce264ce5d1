use Rattle.std.proofs.Common.{rules, subst}
use Rattle.format.specs.declared.slot.Slot.TheVariants.{Job}
use Rattle.format.specs.declared.slot.JobEvent.TheVariants.{Open}
use Rattle.rules.specs.Plans.{append, Did, Failed, next, failed, done, performed}
use Rattle.rules.specs.Runs.{opens}
use Rattle.calls.proofs.Performing.{turned_away, ends_in}
use Rattle.calls.proofs.Serving.{refused_by, served}
use Rattle.calls.proofs.state.State.open.Goals as goal

pub returns-in_err-ask_stage : goal.returns-in_err-ask_stage
returns-in_err-ask_stage g c = turned_away g.K.Change.meaning c.from_residual.result (search rules) c.in_err-ask_stage.ensures.refused

pub returns-in_err-ask_open : goal.returns-in_err-ask_open
returns-in_err-ask_open g c =
    let b = c.in_ok-ask_stage.ensures in
    refused_by g.K.Change.meaning opens c.from_residual-in_err-ask_open.result b.same b.stage b.power c.in_err-ask_open.ensures (search rules)

pub returns-in_err-append : goal.returns-in_err-append
returns-in_err-append g c =
    let m = g.K.Change.meaning in
    let b = c.in_ok-ask_stage.ensures in
    let s = c.self.inside in
    served m s.devices s.stage s.jobs s.dirty s.copies.items s.first opens c.self.view_is b.same b.stage b.power c.in_ok-ask_open.ensures
    (ends_in m (search rules) (failed (subst (λ n. Failed m (append (Job Open n)) s.devices c.in_err-append.field-0.0 c.append.new.self) c.next_slot-job.ensures c.in_err-append.ensures)))

pub returns-in_err-force : goal.returns-in_err-force
returns-in_err-force g c =
    let m = g.K.Change.meaning in
    let b = c.in_ok-ask_stage.ensures in
    let s = c.self.inside in
    served m s.devices s.stage s.jobs s.dirty s.copies.items s.first opens c.self.view_is b.same b.stage b.power c.in_ok-ask_open.ensures
    (ends_in m (search rules) (next (subst (λ n. Did m (append (Job Open n)) s.devices c.append.new.self) c.next_slot-job.ensures c.in_ok-append.ensures) (failed c.in_err-force.ensures)))

pub returns : goal.returns
returns g c =
    let m = g.K.Change.meaning in
    let b = c.in_ok-ask_stage.ensures in
    let s = c.self.inside in
    served m s.devices s.stage s.jobs s.dirty s.copies.items s.first opens c.self.view_is b.same b.stage b.power c.in_ok-ask_open.ensures
    (rw (c.enter.ensures, c.next_slot-job.ensures) (performed (next (subst (λ n. Did m (append (Job Open n)) s.devices c.append.new.self) c.next_slot-job.ensures c.in_ok-append.ensures) (next c.in_ok-force.ensures done))))
