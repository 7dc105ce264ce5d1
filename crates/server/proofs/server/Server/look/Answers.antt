use Rattle.rules.specs.Runs.{service, looks}
use Rattle.promises.proofs.Promised.{looks_right}
use Rattle.server.proofs.Promising.{goes_on, in_order, promised, looked}
use Rattle.server.specs.Answered.{bytes_in}
use Rattle.std.proofs.Common.{rules, ◌≡◌, length, Err}
use Rattle.server.proofs.server.Server.look.Goals as goal

pub look-requires : goal.look-requires
look-requires g c = in_order g.K.Change.meaning g.met.K.Change.lawful c.self.invariant

pub invariant_of-self : goal.invariant_of-self
invariant_of-self g c = goes_on g.K.Change.meaning (service (looks c.args.page _)) c.self.invariant c.look.ensures

pub returns-in_err-bytes-clause-promised : goal.returns-in_err-bytes-clause-promised
returns-in_err-bytes-clause-promised g c =
    let e : bytes_in c.from_residual.result c.args.buffer.now ≡ Err c.in_err-bytes.field-0.0 = search rules in
    rw (← c.self.view_is, e) (promised g.K.Change.meaning g.met.K.Change.lawful (service (looks c.args.page _)) c.self.invariant c.in_err-bytes.ensures)

pub fill-requires : goal.fill-requires
fill-requires g c = looked g.K.Change.meaning c.args.page _ c.in_ok-bytes.ensures

pub invariant_of-self-2 : goal.invariant_of-self-2
invariant_of-self-2 g c = goes_on g.K.Change.meaning (service (looks c.args.page _)) c.self.invariant c.look.ensures

pub returns-clause-promised : goal.returns-clause-promised
returns-clause-promised g c = rw (← c.self.view_is) (promised g.K.Change.meaning g.met.K.Change.lawful (service (looks c.args.page _)) c.self.invariant (rw c.fill.ensures c.in_ok-bytes.ensures))

pub returns-clause-look : goal.returns-clause-look
returns-clause-look g c = λ h reached. looks_right g.K.Change.meaning g.met.K.Change.lawful h c.args.self.now c.look.new.self c.args.page (length c.args.buffer.now) c.fill.new.buffer reached (rw (← c.self.view_is, c.fill.ensures) c.in_ok-bytes.ensures)
