use Rattle.rules.specs.Runs.{service, commits}
use Rattle.server.proofs.Promising.{goes_on, in_order, promised, stands}
use Rattle.server.proofs.server.Server.commit.Goals as goal

pub commit-answer-requires : goal.commit-answer-requires
commit-answer-requires g c = in_order g.K.Change.meaning g.met.K.Change.lawful c.self.invariant

pub invariant_of-self : goal.invariant_of-self
invariant_of-self g c = goes_on g.K.Change.meaning (service (commits c.args.job.number)) c.self.invariant c.commit-answer.ensures

pub returns-clause-promised : goal.returns-clause-promised
returns-clause-promised g c = rw (← c.self.view_is) (promised g.K.Change.meaning g.met.K.Change.lawful (service (commits c.args.job.number)) c.self.invariant (rw c.or_handle.ensures.answer c.commit-answer.ensures))

pub returns-clause-stands : goal.returns-clause-stands
returns-clause-stands g c = λ h w reached.
    stands g.K.Change.meaning g.met.K.Change.lawful h c.args.self.now c.commit-answer.new.self reached w c.args.job.number c.or_handle.result (rw (← c.self.view_is, c.or_handle.ensures.answer) c.commit-answer.ensures)
