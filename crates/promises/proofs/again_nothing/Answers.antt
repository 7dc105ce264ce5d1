use Rattle.promises.proofs.Promised.{again_nothing}
use Rattle.promises.proofs.again_nothing.Goals as goal

pub returns : goal.returns
returns g c = again_nothing g.K.Change.meaning g.met.K.Change.lawful
