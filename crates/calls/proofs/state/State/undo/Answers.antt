use Rattle.std.proofs.Common.{rules, ◌≡◌, true, ◌∙◌}
use Rattle.std.proofs.lemmas.List.{with_items_is}
use Rattle.rules.specs.State.{Working}
use Rattle.calls.proofs.Performing.{turned_away}
use Rattle.calls.proofs.Serving.{working_of}
use Rattle.calls.proofs.Undoing.{still_powered, does_undo, undo_breaks, undo_unforced, undo_ends}
use Rattle.calls.proofs.state.State.undo.Goals as goal

pub returns-in_err-ask_stage : goal.returns-in_err-ask_stage
returns-in_err-ask_stage g c = turned_away g.K.Change.meaning c.from_residual.result (search rules) c.in_err-ask_stage.ensures.refused

pub returns-in_err-compensations : goal.returns-in_err-compensations
returns-in_err-compensations g c =
    let m = g.K.Change.meaning in
    let b = c.in_ok-ask_stage.ensures in
    let s = c.self.inside in
    let x : Working = working_of s.copies.items s.jobs s.first in
    does_undo m s.devices x s.stage s.dirty c.self.view_is b.same b.stage b.power
    (undo_breaks m s.devices x c.as_mut_slice-copies.ensures.value (search rules) c.in_err-compensations.ensures)

pub log_length-requires : goal.log_length-requires
log_length-requires g c =
    let power : c.self.inside.devices.log.powered ≡ true = search rules in
    still_powered g.K.Change.meaning c.in_ok-compensations.ensures.1 power

pub returns-in_err-force : goal.returns-in_err-force
returns-in_err-force g c =
    let m = g.K.Change.meaning in
    let b = c.in_ok-ask_stage.ensures in
    let s = c.self.inside in
    let x : Working = working_of s.copies.items s.jobs s.first in
    does_undo m s.devices x s.stage s.dirty c.self.view_is b.same b.stage b.power
    (undo_unforced m s.devices x c.as_mut_slice-copies.ensures.value {jobs = c.undo_losers.new.jobs} {copies = c.undo_losers.new.copies} {c = c.in_ok-compensations.compensations}
    c.in_ok-compensations.ensures
    (search rules) c.in_err-force.ensures)

pub returns : goal.returns
returns g c =
    let m = g.K.Change.meaning in
    let b = c.in_ok-ask_stage.ensures in
    let s = c.self.inside in
    let x : Working = working_of s.copies.items s.jobs s.first in
    does_undo m s.devices x s.stage s.dirty c.self.view_is b.same b.stage b.power
    (undo_ends m s.devices x c.as_mut_slice-copies.ensures.value {jobs = c.undo_losers.new.jobs} {copies = c.undo_losers.new.copies} {c = c.in_ok-compensations.compensations}
    c.in_ok-compensations.ensures
    c.log_length.result c.log_length-before.result _ c.log_length.ensures.value c.log_length-before.ensures.value
    (with_items_is s.copies c.undo_losers.new.copies (c.undo_losers.auto.copies ∙ c.as_mut_slice-copies.ensures.len)) c.in_ok-force.ensures)
