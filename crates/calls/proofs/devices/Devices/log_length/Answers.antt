use Rattle.std.proofs.Common.{arith}
use Rattle.calls.proofs.Outcomes.{length_is}
use Rattle.calls.proofs.devices.Devices.log_length.Goals as goal

pub returns-clause-fits : goal.returns-clause-fits
returns-clause-fits g c =
    let sound = g.L.LogStore.sound c.self.inside.log in
    let room = sound.room in
    let numbers = sound.numbers in
    let is = length_is (g.L.LogStore.model c.self.inside.log) c.len.result c.unwrap.result c.len.ensures c.unwrap.ensures in
    omega arith
