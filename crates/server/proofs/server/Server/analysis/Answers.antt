use Rattle.rules.specs.Runs.{analysis}
use Rattle.promises.proofs.Promised.{never_refused}
use Rattle.server.proofs.Promising.{goes_on, promised, analysis_accepted}
use Rattle.server.specs.Answered.{numbers_of}
use Rattle.std.proofs.Common.{rules, ◌≡◌, Err}
use Rattle.server.proofs.server.Server.analysis.Goals as goal

pub invariant_of-self : goal.invariant_of-self
invariant_of-self g c = goes_on g.K.Change.meaning analysis c.self.invariant c.analysis.ensures

pub returns-in_err-found-clause-promised : goal.returns-in_err-found-clause-promised
returns-in_err-found-clause-promised g c =
    let e : numbers_of c.from_residual.result ≡ Err c.in_err-found.field-0.0 = search rules in
    rw (← c.self.view_is, e) (promised g.K.Change.meaning g.met.K.Change.lawful analysis c.self.invariant c.in_err-found.ensures)

pub returns-in_err-found-clause-accepted : goal.returns-in_err-found-clause-accepted
returns-in_err-found-clause-accepted g c = λ h reached.
    absurd (analysis_accepted g.K.Change.meaning g.met.K.Change.lawful h c.args.self.now c.analysis.new.self reached c.in_err-found.field-0.0 (rw (← c.self.view_is) c.in_err-found.ensures))

pub invariant_of-self-2 : goal.invariant_of-self-2
invariant_of-self-2 g c = goes_on g.K.Change.meaning analysis c.self.invariant c.analysis.ensures

pub returns-clause-promised : goal.returns-clause-promised
returns-clause-promised g c = rw (← c.self.view_is) (promised g.K.Change.meaning g.met.K.Change.lawful analysis c.self.invariant c.in_ok-found.ensures)

pub returns-in_err-found-clause-finishes : goal.returns-in_err-found-clause-finishes
returns-in_err-found-clause-finishes g c = λ h reached. never_refused g.K.Change.meaning g.met.K.Change.lawful h c.args.self.now reached

pub returns-clause-finishes : goal.returns-clause-finishes
returns-clause-finishes g c = λ h reached. never_refused g.K.Change.meaning g.met.K.Change.lawful h c.args.self.now reached
