use Rattle.promises.proofs.Promised.{never_refused}
use Rattle.promises.proofs.passes_accepted.Goals as goal

pub returns : goal.returns
returns g c = never_refused g.K.Change.meaning g.met.K.Change.lawful
