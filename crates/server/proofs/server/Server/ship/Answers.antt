use Rattle.rules.specs.Runs.{service, ships}
use Rattle.server.proofs.Promising.{goes_on, in_order, promised}
use Rattle.server.proofs.server.Server.ship.Goals as goal

pub ship-requires : goal.ship-requires
ship-requires g c = in_order g.K.Change.meaning g.met.K.Change.lawful c.self.invariant

pub invariant_of-self : goal.invariant_of-self
invariant_of-self g c = goes_on g.K.Change.meaning (service (ships c.args.job.now.number c.args.page c.args.image.now)) c.self.invariant c.ship.ensures

pub returns-clause-promised : goal.returns-clause-promised
returns-clause-promised g c = rw (← c.self.view_is) (promised g.K.Change.meaning g.met.K.Change.lawful (service (ships c.args.job.now.number c.args.page c.args.image.now)) c.self.invariant c.ship.ensures)
