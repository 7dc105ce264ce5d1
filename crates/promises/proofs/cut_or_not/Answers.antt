use Rattle.promises.proofs.Promised.{cut_or_not}
use Rattle.promises.proofs.cut_or_not.Goals as goal

pub returns : goal.returns
returns g c = cut_or_not g.K.Change.meaning g.met.K.Change.lawful
