use Rattle.std.proofs.Common.{refl}
use Rattle.calls.proofs.Serving.{reads}
use Rattle.calls.proofs.state.State.read_log.Goals as goal

pub read_from-requires : goal.read_from-requires
read_from-requires g c = let s = c.self.inside in
    reads g.K.Change.meaning s.devices s.stage s.jobs s.dirty s.copies.items s.first c.self.view_is refl c.requires
