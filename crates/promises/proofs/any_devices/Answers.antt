use Rattle.promises.proofs.AnyDevices.{any_devices}
use Rattle.promises.proofs.any_devices.Goals as goal

pub returns : goal.returns
returns g c = any_devices g.K.Change.meaning g.met.K.Change.lawful
