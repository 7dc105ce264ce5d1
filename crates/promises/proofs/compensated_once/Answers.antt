use Rattle.promises.proofs.Promised.{compensated_once}
use Rattle.promises.proofs.compensated_once.Goals as goal

pub returns : goal.returns
returns g c = compensated_once g.K.Change.meaning g.met.K.Change.lawful
