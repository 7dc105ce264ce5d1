use Rattle.promises.proofs.Promised.{losers_undone}
use Rattle.promises.proofs.losers_undone.Goals as goal

pub returns : goal.returns
returns g c = losers_undone g.K.Change.meaning g.met.K.Change.lawful
