use Rattle.rules.specs.Runs.{redo}
use Rattle.server.proofs.Promising.{goes_on, in_order, promised, redo_accepted}
use Rattle.server.specs.Answered.{numbers_of}
use Rattle.std.proofs.Common.{rules, ◌≡◌, Err}
use Rattle.server.proofs.server.Server.redo.Goals as goal

pub redo-requires : goal.redo-requires
redo-requires g c = in_order g.K.Change.meaning g.met.K.Change.lawful c.self.invariant

pub invariant_of-self : goal.invariant_of-self
invariant_of-self g c = goes_on g.K.Change.meaning redo c.self.invariant c.redo.ensures

pub returns-in_err-played-clause-promised : goal.returns-in_err-played-clause-promised
returns-in_err-played-clause-promised g c =
    let e : numbers_of c.from_residual.result ≡ Err c.in_err-played.field-0.0 = search rules in
    rw (← c.self.view_is, e) (promised g.K.Change.meaning g.met.K.Change.lawful redo c.self.invariant c.in_err-played.ensures)

pub returns-in_err-played-clause-accepted : goal.returns-in_err-played-clause-accepted
returns-in_err-played-clause-accepted g c = λ h reached.
    let e : c.from_residual.result ≡ Err c.in_err-played.field-0.0 = search rules in
    rw e (redo_accepted g.K.Change.meaning g.met.K.Change.lawful h c.args.self.now c.redo.new.self reached c.in_err-played.field-0.0 (rw (← c.self.view_is) c.in_err-played.ensures))

pub invariant_of-self-2 : goal.invariant_of-self-2
invariant_of-self-2 g c = goes_on g.K.Change.meaning redo c.self.invariant c.redo.ensures

pub returns-clause-promised : goal.returns-clause-promised
returns-clause-promised g c = rw (← c.self.view_is) (promised g.K.Change.meaning g.met.K.Change.lawful redo c.self.invariant c.in_ok-played.ensures)
