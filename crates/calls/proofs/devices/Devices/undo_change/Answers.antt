use Rattle.std.proofs.Common.{rules, ◌≡◌, suc, Some, None, Err, ap, ◌∙◌, arith}
use Rattle.rules.specs.declared.refusal.Refusal.TheVariants.{LogUnreadable}
use Rattle.calls.specs.TakingBack.{turn}
use Rattle.calls.proofs.Appending.{power_after, at_entry}
use Rattle.calls.proofs.Undoing.{broken_off, is_full, is_free, turn_full, turn_none, turn_fails, turn_back}
use Rattle.calls.proofs.devices.Devices.undo_change.Goals as goal

pub returns-in_err-check_slot-clause-turns : goal.returns-in_err-check_slot-clause-turns
returns-in_err-check_slot-clause-turns g c = λ d u n last un.
    let m = g.K.Change.meaning in
    let why : c.from_residual.result ≡ Err c.in_err-check_slot.field-0.0 = search rules in
    let full = is_full m c.args.self.now c.in_err-check_slot.field-0.0 c.in_err-check_slot.ensures.value in
    broken_off m (turn m d.log.capacity c.args.entry.now u) c.args.jobs.now c.args.copies.now (suc n) (why ∙ ap Err full.1) (turn_full m un c.args.entry.now full.0)

pub change-requires : goal.change-requires
change-requires g c = (c.requires.0, omega arith, c.requires.1)

pub returns-in_err-change-clause-turns : goal.returns-in_err-change-clause-turns
returns-in_err-change-clause-turns g c = λ d u n last un.
    let m = g.K.Change.meaning in
    let x = c.args.entry.now in
    let why : c.from_residual-in_err-change.result ≡ Err LogUnreadable = search rules in
    let none : None ≡ c.change.result = search rules in
    broken_off m (turn m d.log.capacity x u) c.args.jobs.now c.args.copies.now (suc n) why (turn_none m un x (is_free m c.args.self.now c.in_ok-check_slot.ensures.value)
    (at_entry m d c.args.self.now 1 x.job x.next last (none ∙ c.change.ensures)))

pub returns-in_err-take_back-clause-turns : goal.returns-in_err-take_back-clause-turns
returns-in_err-take_back-clause-turns g c = λ d u n last un.
    let m = g.K.Change.meaning in
    let x = c.args.entry.now in
    let r = c.in_ok-change.change in
    let why : c.from_residual-in_err-take_back.result ≡ Err c.in_err-take_back.field-0.0 = search rules in
    let found : Some r ≡ c.change.result = search rules in
    broken_off m (turn m d.log.capacity x u) c.args.jobs.now c.take_back.new.copies (suc n) why (turn_fails m un x (is_free m c.args.self.now c.in_ok-check_slot.ensures.value) r
    (at_entry m d c.args.self.now 1 x.job x.next last (found ∙ c.change.ensures)) c.in_err-take_back.ensures.appended)

pub end_if_done-requires : goal.end_if_done-requires
end_if_done-requires g c = power_after g.K.Change.meaning c.in_ok-take_back.ensures.appended

pub returns-clause-turns : goal.returns-clause-turns
returns-clause-turns g c = λ d u n last un.
    let m = g.K.Change.meaning in
    let x = c.args.entry.now in
    let r = c.in_ok-change.change in
    let found : Some r ≡ c.change.result = search rules in
    turn_back m un x (is_free m c.args.self.now c.in_ok-check_slot.ensures.value) r
    (at_entry m d c.args.self.now 1 x.job x.next last (found ∙ c.change.ensures))
    c.end_if_done.result c.end_if_done.new.self c.end_if_done.new.jobs c.in_ok-take_back.ensures.appended c.set_next.ensures c.in_ok-take_back.ensures.played
    (λ v vn. c.end_if_done.ensures d v c.take_back.new.copies (suc n) vn)
