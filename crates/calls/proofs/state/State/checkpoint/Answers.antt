use Rattle.std.proofs.Common.{rules, sym, ◌∙◌}
use Rattle.rules.specs.Plans.{performed}
use Rattle.rules.specs.Runs.{checkpoints}
use Rattle.calls.proofs.Checkpointing.{slots_many, asked_so, as_planned}
use Rattle.calls.proofs.Operations.{were_done, performed_all, failed_last}
use Rattle.calls.proofs.Performing.{turned_away, ends_in}
use Rattle.calls.proofs.Serving.{refused_by, served}
use Rattle.calls.proofs.state.State.checkpoint.Goals as goal

pub returns-in_err-ask_stage : goal.returns-in_err-ask_stage
returns-in_err-ask_stage g c = turned_away g.K.Change.meaning c.from_residual.result (search rules) c.in_err-ask_stage.ensures.refused

pub returns-in_err-check : goal.returns-in_err-check
returns-in_err-check g c =
    let m = g.K.Change.meaning in
    let b = c.in_ok-ask_stage.ensures in
    let s = c.self.inside in
    let plan = asked_so m s.devices s.stage s.jobs s.dirty s.copies.items s.first c.self.view_is (rw b.same b.stage) c.firsts_lacked-firsts.result c.firsts_lacked-firsts.ensures
    c.lacking.result c.count.result c.has_room.result c.check.result (rw (sym c.size.ensures) c.lacking.ensures.value) c.count.ensures.value c.has_room.ensures c.check.ensures in
    refused_by m checkpoints c.from_residual-in_err-check.result b.same b.stage b.power (sym c.in_err-check.was ∙ plan) (search rules)

pub returns-in_err-append_checkpoint : goal.returns-in_err-append_checkpoint
returns-in_err-append_checkpoint g c =
    let m = g.K.Change.meaning in
    let b = c.in_ok-ask_stage.ensures in
    let s = c.self.inside in
    let plan = asked_so m s.devices s.stage s.jobs s.dirty s.copies.items s.first c.self.view_is (rw b.same b.stage) c.firsts_lacked-firsts.result c.firsts_lacked-firsts.ensures
    c.lacking.result c.count.result c.has_room.result c.check.result (rw (sym c.size.ensures) c.lacking.ensures.value) c.count.ensures.value c.has_room.ensures c.check.ensures in
    let slots = as_planned m s.devices s.stage s.jobs s.dirty s.copies.items s.first c.self.view_is (rw b.same b.stage) c.firsts_lacked-firsts.result c.firsts_lacked-firsts.ensures
    c.size.result c.listed.result.now c.size.ensures c.listed.ensures.value c.append_checkpoint.ensures in
    served m s.devices s.stage s.jobs s.dirty s.copies.items s.first checkpoints c.self.view_is b.same b.stage b.power (sym c.in_ok-check.was ∙ plan)
    (ends_in m (search rules) (failed_last m slots c.in_err-append_checkpoint.was))

pub returns : goal.returns
returns g c =
    let m = g.K.Change.meaning in
    let b = c.in_ok-ask_stage.ensures in
    let s = c.self.inside in
    let plan = asked_so m s.devices s.stage s.jobs s.dirty s.copies.items s.first c.self.view_is (rw b.same b.stage) c.firsts_lacked-firsts.result c.firsts_lacked-firsts.ensures
    c.lacking.result c.count.result c.has_room.result c.check.result (rw (sym c.size.ensures) c.lacking.ensures.value) c.count.ensures.value c.has_room.ensures c.check.ensures in
    let slots = as_planned m s.devices s.stage s.jobs s.dirty s.copies.items s.first c.self.view_is (rw b.same b.stage) c.firsts_lacked-firsts.result c.firsts_lacked-firsts.ensures
    c.size.result c.listed.result.now c.size.ensures c.listed.ensures.value c.append_checkpoint.ensures in
    let many = slots_many m s.devices s.stage s.jobs s.dirty s.copies.items s.first c.self.view_is (rw b.same b.stage) c.firsts_lacked-firsts.result c.firsts_lacked-firsts.ensures
    c.lacking.result c.count.result (rw (sym c.size.ensures) c.lacking.ensures.value) c.count.ensures.value in
    served m s.devices s.stage s.jobs s.dirty s.copies.items s.first checkpoints c.self.view_is b.same b.stage b.power (sym c.in_ok-check.was ∙ plan)
    (rw (c.log_length.ensures.value, many) (performed (performed_all m (were_done m slots c.in_ok-append_checkpoint.was))))
