use Rattle.std.proofs.Common.{◌≡◌, true, arith, rules}
use Rattle.battery.specs.Batteries.{held}
use Rattle.battery.proofs.BatteryForces.{slot_appended}
use Rattle.device.proofs.Rows.{as_bytes_is}
use Rattle.battery.proofs.slots.BatteryLogLogStore.append.Goals as goal

pub returns-clause-outcome : goal.returns-clause-outcome
returns-clause-outcome c =
    let on : (held c.args.self.now).powered ≡ true = search rules in
    slot_appended (held c.args.self.now) (held c.append_one.new.self) c.args.bytes.now
    (as_bytes_is 60 c.args.bytes.now c.told-bytes c.fits-bytes) on c.args.self.now.in_used (omega arith) c.append_one.ensures
