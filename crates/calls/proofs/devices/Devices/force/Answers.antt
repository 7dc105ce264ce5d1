use Rattle.std.proofs.Common.{rules, ◌≡◌, Err}
use Rattle.rules.specs.Plans.{refusal_of_log, forced}
use Rattle.calls.proofs.Outcomes.{force_fails}
use Rattle.calls.proofs.devices.Devices.force.Goals as goal

pub returns-in_err-force : goal.returns-in_err-force
returns-in_err-force g c =
    let why : c.from_residual.result ≡ Err (refusal_of_log c.in_err-force.field-0.0) = search rules in
    rw (← c.self.view_is) (force_fails g.K.Change.meaning _ _ _ c.from_residual.result why c.in_err-force.ensures)

pub returns : goal.returns
returns g c = rw (← c.self.view_is) (forced c.in_ok-force.ensures)
