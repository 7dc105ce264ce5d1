use Rattle.rules.specs.Runs.{service, fetches}
use Rattle.server.proofs.Promising.{goes_on, in_order, promised, fetched}
use Rattle.server.specs.Answered.{bytes_in}
use Rattle.std.proofs.Common.{rules, ◌≡◌, Err}
use Rattle.server.proofs.server.Server.fetch.Goals as goal

pub fetch-requires : goal.fetch-requires
fetch-requires g c = in_order g.K.Change.meaning g.met.K.Change.lawful c.self.invariant

pub invariant_of-self : goal.invariant_of-self
invariant_of-self g c = goes_on g.K.Change.meaning (service (fetches c.args.job.now.number c.args.page _)) c.self.invariant c.fetch.ensures

pub returns-in_err-bytes-clause-promised : goal.returns-in_err-bytes-clause-promised
returns-in_err-bytes-clause-promised g c =
    let e : bytes_in c.from_residual.result c.args.buffer.now ≡ Err c.in_err-bytes.field-0.0 = search rules in
    rw (← c.self.view_is, e) (promised g.K.Change.meaning g.met.K.Change.lawful (service (fetches c.args.job.now.number c.args.page _)) c.self.invariant c.in_err-bytes.ensures)

pub fill-requires : goal.fill-requires
fill-requires g c = fetched g.K.Change.meaning c.args.job.now.number c.args.page _ c.in_ok-bytes.ensures

pub invariant_of-self-2 : goal.invariant_of-self-2
invariant_of-self-2 g c = goes_on g.K.Change.meaning (service (fetches c.args.job.now.number c.args.page _)) c.self.invariant c.fetch.ensures

pub returns-clause-promised : goal.returns-clause-promised
returns-clause-promised g c = rw (← c.self.view_is) (promised g.K.Change.meaning g.met.K.Change.lawful (service (fetches c.args.job.now.number c.args.page _)) c.self.invariant (rw c.fill.ensures c.in_ok-bytes.ensures))
