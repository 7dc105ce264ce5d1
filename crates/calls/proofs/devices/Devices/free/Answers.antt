use Rattle.std.proofs.Common.{ap, arith}
use Rattle.rules.specs.State.{log_length}
use Rattle.calls.proofs.devices.Devices.free.Goals as goal

pub overflow_sub-result : goal.overflow_sub-result
overflow_sub-result g c =
    let room = (g.L.LogStore.sound c.self.inside.log).room in
    let same = ap log_length c.self.view_is in
    omega arith
