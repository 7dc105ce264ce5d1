use Rattle.rules.specs.Runs.{service, records}
use Rattle.server.proofs.Promising.{goes_on, in_order, promised}
use Rattle.server.proofs.server.Server.record.Goals as goal

pub record-requires : goal.record-requires
record-requires g c = in_order g.K.Change.meaning g.met.K.Change.lawful c.self.invariant

pub invariant_of-self : goal.invariant_of-self
invariant_of-self g c = goes_on g.K.Change.meaning (service (records c.args.job.now.number c.args.page c.args.lrc c.args.change.now)) c.self.invariant c.record.ensures

pub returns-clause-promised : goal.returns-clause-promised
returns-clause-promised g c = rw (← c.self.view_is) (promised g.K.Change.meaning g.met.K.Change.lawful (service (records c.args.job.now.number c.args.page c.args.lrc c.args.change.now)) c.self.invariant c.record.ensures)
