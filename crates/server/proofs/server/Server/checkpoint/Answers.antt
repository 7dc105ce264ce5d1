use Rattle.rules.specs.Runs.{service, checkpoints}
use Rattle.server.proofs.Promising.{goes_on, in_order, promised}
use Rattle.server.proofs.server.Server.checkpoint.Goals as goal

pub checkpoint-requires : goal.checkpoint-requires
checkpoint-requires g c = in_order g.K.Change.meaning g.met.K.Change.lawful c.self.invariant

pub invariant_of-self : goal.invariant_of-self
invariant_of-self g c = goes_on g.K.Change.meaning (service checkpoints) c.self.invariant c.checkpoint.ensures

pub returns-clause-promised : goal.returns-clause-promised
returns-clause-promised g c = rw (← c.self.view_is) (promised g.K.Change.meaning g.met.K.Change.lawful (service checkpoints) c.self.invariant c.checkpoint.ensures)
