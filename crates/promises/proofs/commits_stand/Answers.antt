use Rattle.promises.proofs.Promised.{commits_stand}
use Rattle.promises.proofs.commits_stand.Goals as goal

pub returns : goal.returns
returns g c = commits_stand g.K.Change.meaning g.met.K.Change.lawful
