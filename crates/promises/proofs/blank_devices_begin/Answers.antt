use Rattle.promises.proofs.Promised.{blank_begins}
use Rattle.promises.proofs.blank_devices_begin.Goals as goal

pub returns : goal.returns
returns g c = blank_begins g.K.Change.meaning g.met.K.Change.lawful
