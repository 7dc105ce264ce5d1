use Rattle.promises.proofs.Promised.{checkpoints_agree}
use Rattle.promises.proofs.checkpoints_agree.Goals as goal

pub returns : goal.returns
returns g c = checkpoints_agree g.K.Change.meaning g.met.K.Change.lawful
