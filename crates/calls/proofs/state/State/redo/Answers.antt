use Rattle.std.proofs.Common.{rules, ◌∙◌}
use Rattle.std.proofs.lemmas.List.{with_items_is}
use Rattle.calls.proofs.Performing.{turned_away}
use Rattle.calls.proofs.Redoing.{start_is, store_ahead, replay_refused, replay_ended}
use Rattle.calls.proofs.state.State.redo.Goals as goal

pub returns-in_err-ask_stage : goal.returns-in_err-ask_stage
returns-in_err-ask_stage g c = turned_away g.K.Change.meaning c.from_residual.result (search rules) c.in_err-ask_stage.ensures.refused

pub returns-in_err-check : goal.returns-in_err-check
returns-in_err-check g c =
    let b = c.in_ok-ask_stage.ensures in
    let s = c.self.inside in
    store_ahead g.K.Change.meaning s.devices s.stage s.jobs s.dirty s.copies.items s.first c.self.view_is b.same b.stage b.power
    c.log_length.ensures.value (c.deref.ensures.value ∙ c.copy_pages.ensures.value) c.none_ahead.ensures c.in_err-check.ensures (search rules)

pub returns-in_err-count : goal.returns-in_err-count
returns-in_err-count g c =
    let b = c.in_ok-ask_stage.ensures in
    let s = c.self.inside in
    replay_refused g.K.Change.meaning s.devices s.stage s.jobs s.dirty s.copies.items s.first c.self.view_is b.same b.stage b.power
    c.log_length.ensures.value (c.deref.ensures.value ∙ c.copy_pages.ensures.value) c.none_ahead.ensures c.in_ok-check.ensures
    (c.deref_mut.ensures.value ∙ c.copy_pages.ensures.value) c.in_err-count.ensures (search rules)

pub returns : goal.returns
returns g c =
    let b = c.in_ok-ask_stage.ensures in
    let s = c.self.inside in
    replay_ended g.K.Change.meaning s.devices s.stage s.jobs s.dirty s.copies.items s.first c.self.view_is b.same b.stage b.power
    c.log_length.ensures.value (c.deref.ensures.value ∙ c.copy_pages.ensures.value) c.none_ahead.ensures c.in_ok-check.ensures
    (c.deref_mut.ensures.value ∙ c.copy_pages.ensures.value) c.in_ok-count.ensures
    (c.unwrap_or-from.ensures ∙ start_is s.dirty c.least_start.result c.least_start.ensures) c.first_read-self-inside.ensures
    (with_items_is c.copy_pages.new.copies c.replay.new.copies (c.replay.auto.copies ∙ c.deref_mut.ensures.len))
