use Rattle.rules.specs.Runs.{service, aborts}
use Rattle.server.proofs.Promising.{goes_on, in_order, promised}
use Rattle.server.proofs.server.Server.abort.Goals as goal

pub abort-answer-requires : goal.abort-answer-requires
abort-answer-requires g c = in_order g.K.Change.meaning g.met.K.Change.lawful c.self.invariant

pub invariant_of-self : goal.invariant_of-self
invariant_of-self g c = goes_on g.K.Change.meaning (service (aborts c.args.job.number)) c.self.invariant c.abort-answer.ensures

pub returns-clause-promised : goal.returns-clause-promised
returns-clause-promised g c = rw (← c.self.view_is) (promised g.K.Change.meaning g.met.K.Change.lawful (service (aborts c.args.job.number)) c.self.invariant (rw c.or_handle.ensures.answer c.abort-answer.ensures))
