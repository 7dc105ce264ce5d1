use Rattle.std.proofs.Common.{◌<◌, ap, ◌∙◌, arith}
use Rattle.rules.specs.Restart.{whole, start_at}
use Rattle.calls.proofs.Analysing.{from_an_end}
use Rattle.calls.proofs.devices.Devices.start.Goals as goal

pub returns-in_default-clause-value : goal.returns-in_default-clause-value
returns-in_default-clause-value g c =
    let one : 0 < c.last_end.result = omega arith in
    from_an_end g.K.Change.meaning c.args.self.now c.last_end.result one c.last_end.ensures.inside c.begin_of.ensures.value
    ∙ ap (start_at (whole g.K.Change.meaning c.args.self.now)) c.last_end.ensures.value
