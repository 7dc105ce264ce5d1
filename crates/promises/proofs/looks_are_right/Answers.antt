use Rattle.promises.proofs.Promised.{looks_right}
use Rattle.promises.proofs.looks_are_right.Goals as goal

pub returns : goal.returns
returns g c = looks_right g.K.Change.meaning g.met.K.Change.lawful
