use Rattle.battery.specs.Batteries.{held}
use Rattle.battery.proofs.BatteryForces.{log_cut_back}
use Rattle.battery.proofs.slots.BatteryLogLogStore.power_on.Goals as goal

pub returns-clause-outcome : goal.returns-clause-outcome
returns-clause-outcome c = log_cut_back (held c.args.self.now) (held c.cut_back.new.self) c.args.self.now.in_used c.cut_back.ensures
