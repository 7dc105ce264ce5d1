use Rattle.std.proofs.Common.{rules}
use Rattle.rules.specs.Plans.{next, failed, done, performed}
use Rattle.rules.specs.Runs.{records}
use Rattle.calls.proofs.Performing.{turned_away, ends_in}
use Rattle.calls.proofs.Recording.{recorded_as}
use Rattle.calls.proofs.Serving.{refused_by, served, working_of}
use Rattle.calls.proofs.state.State.record.Goals as goal

pub returns-in_err-ask_stage : goal.returns-in_err-ask_stage
returns-in_err-ask_stage g c = turned_away g.K.Change.meaning c.from_residual.result (search rules) c.in_err-ask_stage.ensures.refused

pub returns-in_err-change : goal.returns-in_err-change
returns-in_err-change g c =
    let b = c.in_ok-ask_stage.ensures in
    refused_by g.K.Change.meaning (records c.args.job c.args.page c.args.lrc c.args.bytes.now) c.from_residual-in_err-change.result b.same b.stage b.power c.in_err-change.ensures.refused (search rules)

pub returns-in_err-append : goal.returns-in_err-append
returns-in_err-append g c =
    let m = g.K.Change.meaning in
    let b = c.in_ok-ask_stage.ensures in
    let s = c.self.inside in
    let a = c.args in
    let asked = c.in_ok-change.ensures in
    served m s.devices s.stage s.jobs s.dirty s.copies.items s.first (records a.job a.page a.lrc a.bytes.now) c.self.view_is b.same b.stage b.power asked.granted
    (recorded_as m s.devices (working_of s.copies.items s.jobs s.first) a.job a.page a.lrc a.bytes.now c.in_ok-change.change c.unwrap_or-link.result asked.change (search rules)
    (ends_in m (search rules) (failed c.in_err-append.ensures)))

pub returns : goal.returns
returns g c =
    let m = g.K.Change.meaning in
    let b = c.in_ok-ask_stage.ensures in
    let s = c.self.inside in
    let a = c.args in
    let asked = c.in_ok-change.ensures in
    served m s.devices s.stage s.jobs s.dirty s.copies.items s.first (records a.job a.page a.lrc a.bytes.now) c.self.view_is b.same b.stage b.power asked.granted
    (recorded_as m s.devices (working_of s.copies.items s.jobs s.first) a.job a.page a.lrc a.bytes.now c.in_ok-change.change c.unwrap_or-link.result asked.change (search rules)
    (rw (c.set_next.ensures, c.next_slot-number.ensures) (performed (next c.in_ok-append.ensures done))))
