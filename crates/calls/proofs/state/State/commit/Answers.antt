use Rattle.std.proofs.Common.{rules}
use Rattle.rules.specs.Plans.{next, failed, done, performed}
use Rattle.rules.specs.Runs.{commits}
use Rattle.calls.proofs.Performing.{turned_away, ends_in}
use Rattle.calls.proofs.Serving.{refused_by, served}
use Rattle.calls.proofs.state.State.commit.Goals as goal

pub returns-in_err-ask_stage : goal.returns-in_err-ask_stage
returns-in_err-ask_stage g c = turned_away g.K.Change.meaning c.from_residual.result (search rules) c.in_err-ask_stage.ensures.refused

pub returns-in_err-ask_commit : goal.returns-in_err-ask_commit
returns-in_err-ask_commit g c =
    let b = c.in_ok-ask_stage.ensures in
    refused_by g.K.Change.meaning (commits c.args.job) c.from_residual-in_err-ask_commit.result b.same b.stage b.power c.in_err-ask_commit.ensures (search rules)

pub returns-in_err-append : goal.returns-in_err-append
returns-in_err-append g c =
    let m = g.K.Change.meaning in
    let b = c.in_ok-ask_stage.ensures in
    let s = c.self.inside in
    served m s.devices s.stage s.jobs s.dirty s.copies.items s.first (commits c.args.job) c.self.view_is b.same b.stage b.power c.in_ok-ask_commit.ensures
    (ends_in m (search rules) (failed c.in_err-append.ensures))

pub returns-in_err-force : goal.returns-in_err-force
returns-in_err-force g c =
    let m = g.K.Change.meaning in
    let b = c.in_ok-ask_stage.ensures in
    let s = c.self.inside in
    served m s.devices s.stage s.jobs s.dirty s.copies.items s.first (commits c.args.job) c.self.view_is b.same b.stage b.power c.in_ok-ask_commit.ensures
    (ends_in m (search rules) (next c.in_ok-append.ensures (failed c.in_err-force.ensures)))

pub returns : goal.returns
returns g c =
    let m = g.K.Change.meaning in
    let b = c.in_ok-ask_stage.ensures in
    let s = c.self.inside in
    served m s.devices s.stage s.jobs s.dirty s.copies.items s.first (commits c.args.job) c.self.view_is b.same b.stage b.power c.in_ok-ask_commit.ensures
    (rw (c.remove.ensures, c.next_slot-number.ensures) (performed (next c.in_ok-append.ensures (next c.in_ok-force.ensures done))))
