use Rattle.std.proofs.Common.{rules, ◌≡◌, Err}
use Rattle.rules.specs.Plans.{refusal_of_page}
use Rattle.calls.proofs.Outcomes.{wrote_so, write_fails}
use Rattle.calls.proofs.devices.Devices.write.Goals as goal

pub returns-in_err-write : goal.returns-in_err-write
returns-in_err-write g c =
    let why : c.from_residual.result ≡ Err (refusal_of_page c.in_err-write.field-0.0) = search rules in
    rw (← c.self.view_is) (write_fails g.K.Change.meaning _ c.args.page c.args.copy.now _ _ _ c.from_residual.result c.to_bytes.ensures.value why c.in_err-write.ensures)

pub returns : goal.returns
returns g c = rw (← c.self.view_is) (wrote_so g.K.Change.meaning _ c.args.page c.args.copy.now _ _ c.to_bytes.ensures.value c.in_ok-write.ensures)
