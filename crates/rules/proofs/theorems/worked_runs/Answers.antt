use Rattle.rules.proofs.Examples.{worked}
use Rattle.rules.proofs.theorems.worked_runs.Goals as goal

pub returns : goal.returns
returns c = worked
