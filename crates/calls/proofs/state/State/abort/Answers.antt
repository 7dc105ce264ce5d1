use Rattle.std.proofs.Common.{rules, ◌≡◌, Some, None, sym, ◌∙◌}
use Rattle.std.proofs.lemmas.List.{with_items_is}
use Rattle.rules.specs.Runs.{aborts}
use Rattle.rules.specs.Reading.{known}
use Rattle.rules.specs.State.{size, slots}
use Rattle.rules.specs.Tables.{find_job}
use Rattle.calls.specs.declared.state.Stage.TheVariants.{Serving}
use Rattle.calls.specs.TakingBack.{brought_up}
use Rattle.calls.proofs.Aborting.{no_job, abort_breaks, abort_end_fails, abort_ends}
use Rattle.calls.proofs.Performing.{turned_away}
use Rattle.calls.proofs.Serving.{let_in_service, reads, working_of}
use Rattle.calls.proofs.Stages.{opened}
use Rattle.calls.proofs.state.State.abort.Goals as goal

pub returns-in_err-ask_stage : goal.returns-in_err-ask_stage
returns-in_err-ask_stage g c = turned_away g.K.Change.meaning c.from_residual.result (search rules) c.in_err-ask_stage.ensures.refused

pub returns-in_err-entry : goal.returns-in_err-entry
returns-in_err-entry g c =
    let m = g.K.Change.meaning in
    let b = c.in_ok-ask_stage.ensures in
    let s = c.self.inside in
    let none : find_job c.args.job s.jobs ≡ None = search rules in
    let_in_service m s.devices s.stage s.jobs s.dirty s.copies.items s.first (aborts c.args.job) c.self.view_is b.same b.stage b.power
    (no_job m s.devices (working_of s.copies.items s.jobs s.first) c.args.job none (search rules)
    (sym (opened s.devices s.stage s.jobs s.dirty s.copies.items s.first c.self.view_is b.same Serving b.stage) ∙ sym b.same))

pub bring_up-requires : goal.bring_up-requires
bring_up-requires g c =
    let b = c.in_ok-ask_stage.ensures in
    let s = c.self.inside in
    reads g.K.Change.meaning s.devices s.stage s.jobs s.dirty s.copies.items s.first c.self.view_is b.same (c.requires, b.power, b.stage)

pub take_all_back-requires : goal.take_all_back-requires
take_all_back-requires g c =
    let b = c.in_ok-ask_stage.ensures in
    let s = c.self.inside in
    reads g.K.Change.meaning s.devices s.stage s.jobs s.dirty s.copies.items s.first c.self.view_is b.same (c.requires, b.power, b.stage)

pub returns-in_err-take_all_back : goal.returns-in_err-take_all_back
returns-in_err-take_all_back g c =
    let m = g.K.Change.meaning in
    let b = c.in_ok-ask_stage.ensures in
    let s = c.self.inside in
    let x = c.in_ok-entry.field-0.now in
    let open_job : find_job c.args.job s.jobs ≡ Some x = search rules in
    let brought : c.bring_up.new.copies ≡ brought_up m x.holds (known m (size s.devices) s.first (slots s.devices)) s.copies.items = search rules in
    let_in_service m s.devices s.stage s.jobs s.dirty s.copies.items s.first (aborts c.args.job) c.self.view_is b.same b.stage b.power
    (abort_breaks m s.devices (working_of s.copies.items s.jobs s.first) c.args.job x open_job brought (search rules)
    c.in_err-take_all_back.ensures.went)

pub returns-in_err-append : goal.returns-in_err-append
returns-in_err-append g c =
    let m = g.K.Change.meaning in
    let b = c.in_ok-ask_stage.ensures in
    let s = c.self.inside in
    let x = c.in_ok-entry.field-0.now in
    let open_job : find_job c.args.job s.jobs ≡ Some x = search rules in
    let brought : c.bring_up.new.copies ≡ brought_up m x.holds (known m (size s.devices) s.first (slots s.devices)) s.copies.items = search rules in
    let_in_service m s.devices s.stage s.jobs s.dirty s.copies.items s.first (aborts c.args.job) c.self.view_is b.same b.stage b.power
    (abort_end_fails m s.devices (working_of s.copies.items s.jobs s.first) c.args.job x open_job brought (search rules)
    c.in_ok-take_all_back.ensures.went c.in_err-append.ensures)

pub returns : goal.returns
returns g c =
    let m = g.K.Change.meaning in
    let b = c.in_ok-ask_stage.ensures in
    let s = c.self.inside in
    let x = c.in_ok-entry.field-0.now in
    let open_job : find_job c.args.job s.jobs ≡ Some x = search rules in
    let brought : c.bring_up.new.copies ≡ brought_up m x.holds (known m (size s.devices) s.first (slots s.devices)) s.copies.items = search rules in
    let_in_service m s.devices s.stage s.jobs s.dirty s.copies.items s.first (aborts c.args.job) c.self.view_is b.same b.stage b.power
    (abort_ends m s.devices (working_of s.copies.items s.jobs s.first) c.args.job x open_job brought
    c.in_ok-take_all_back.ensures.went
    (with_items_is s.copies c.take_all_back.new.copies (c.take_all_back.auto.copies ∙ (c.bring_up.auto.copies ∙ c.as_mut_slice-copies.ensures.len))
    ∙ c.in_ok-take_all_back.ensures.played)
    c.remove.ensures c.in_ok-append.ensures)
