use Rattle.rules.specs.Runs.{service, opens}
use Rattle.server.proofs.Promising.{goes_on, in_order, promised}
use Rattle.server.specs.Answered.{handle_number}
use Rattle.std.proofs.Common.{rules, ◌≡◌, Err}
use Rattle.server.proofs.server.Server.open.Goals as goal

pub open-requires : goal.open-requires
open-requires g c = in_order g.K.Change.meaning g.met.K.Change.lawful c.self.invariant

pub invariant_of-self : goal.invariant_of-self
invariant_of-self g c = goes_on g.K.Change.meaning (service opens) c.self.invariant c.open.ensures

pub returns-in_err-number-clause-promised : goal.returns-in_err-number-clause-promised
returns-in_err-number-clause-promised g c =
    let e : handle_number c.from_residual.result ≡ Err c.in_err-number.field-0.0 = search rules in
    rw (← c.self.view_is, e) (promised g.K.Change.meaning g.met.K.Change.lawful (service opens) c.self.invariant c.in_err-number.ensures)

pub invariant_of-self-2 : goal.invariant_of-self-2
invariant_of-self-2 g c = goes_on g.K.Change.meaning (service opens) c.self.invariant c.open.ensures

pub returns-clause-promised : goal.returns-clause-promised
returns-clause-promised g c = rw (← c.self.view_is) (promised g.K.Change.meaning g.met.K.Change.lawful (service opens) c.self.invariant c.in_ok-number.ensures)
