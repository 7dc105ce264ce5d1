use Rattle.rules.specs.Runs.{service, writes_out}
use Rattle.server.proofs.Promising.{goes_on, in_order, promised}
use Rattle.server.proofs.server.Server.write_out.Goals as goal

pub write_out-requires : goal.write_out-requires
write_out-requires g c = in_order g.K.Change.meaning g.met.K.Change.lawful c.self.invariant

pub invariant_of-self : goal.invariant_of-self
invariant_of-self g c = goes_on g.K.Change.meaning (service (writes_out c.args.page)) c.self.invariant c.write_out.ensures

pub returns-clause-promised : goal.returns-clause-promised
returns-clause-promised g c = rw (← c.self.view_is) (promised g.K.Change.meaning g.met.K.Change.lawful (service (writes_out c.args.page)) c.self.invariant c.write_out.ensures)
