use Rattle.battery.proofs.BatteryCuts.{lost_once}
use Rattle.battery.proofs.slots.battery_log.Goals as goal

pub returns-clause-once : goal.returns-clause-once
returns-clause-once c = lost_once c.args.cut
