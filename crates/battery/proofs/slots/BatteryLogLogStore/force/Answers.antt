use Rattle.std.proofs.Common.{◌≡◌, true, refl, rules}
use Rattle.battery.specs.Batteries.{held}
use Rattle.battery.proofs.BatteryForces.{forced_or_lost}
use Rattle.battery.proofs.slots.BatteryLogLogStore.force.Goals as goal

pub returns-clause-outcome : goal.returns-clause-outcome
returns-clause-outcome c =
    let on : (held c.args.self.now).powered ≡ true = search rules in
    forced_or_lost (held c.args.self.now) (held c.force_used.new.self) on c.args.self.now.in_room c.args.self.now.in_used c.force_used.ensures
    c.args.self.now.used refl c.check_power-2.result c.check_power-2.ensures
