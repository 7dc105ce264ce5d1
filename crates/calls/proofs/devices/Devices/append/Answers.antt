use Rattle.std.proofs.Common.{rules, ◌≡◌, Err}
use Rattle.rules.specs.Plans.{refusal_of_log}
use Rattle.calls.proofs.Outcomes.{appended_so, append_fails}
use Rattle.calls.proofs.devices.Devices.append.Goals as goal

pub returns-in_err-append : goal.returns-in_err-append
returns-in_err-append g c =
    let why : c.from_residual.result ≡ Err (refusal_of_log c.in_err-append.field-0.0) = search rules in
    rw (← c.self.view_is) (append_fails g.K.Change.meaning _ c.args.slot.now _ _ _ c.from_residual.result c.write.ensures.value why c.in_err-append.ensures)

pub returns : goal.returns
returns g c = rw (← c.self.view_is) (appended_so g.K.Change.meaning _ c.args.slot.now _ _ c.write.ensures.value c.in_ok-append.ensures)
