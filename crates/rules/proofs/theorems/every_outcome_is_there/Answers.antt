use Rattle.rules.proofs.Examples.{possible}
use Rattle.rules.proofs.theorems.every_outcome_is_there.Goals as goal

pub returns : goal.returns
returns g c = possible g.K.Change.meaning
