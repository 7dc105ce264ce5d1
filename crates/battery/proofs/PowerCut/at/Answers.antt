use Rattle.std.proofs.Common.{rules}
use Rattle.battery.proofs.BatteryCuts.{lost_in}
use Rattle.battery.proofs.PowerCut.at.Goals as goal

pub returns-in_err-after-clause-once : goal.returns-in_err-after-clause-once
returns-in_err-after-clause-once c = lost_in c.from_residual.result c.args.number c.args.stands (search rules)

pub returns-clause-once : goal.returns-clause-once
returns-clause-once c = lost_in _ c.args.number c.args.stands (search rules)
