use Rattle.promises.proofs.Promised.{kept_exactly}
use Rattle.promises.proofs.kept_exactly.Goals as goal

pub returns : goal.returns
returns g c = kept_exactly g.K.Change.meaning g.met.K.Change.lawful
