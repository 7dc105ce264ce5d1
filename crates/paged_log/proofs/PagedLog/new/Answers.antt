use Rattle.std.proofs.Common.{replicate}
use Rattle.paged_log.proofs.PagedLogModel.{made_log, made_agrees}
use Rattle.paged_log.proofs.PagedLog.new.Goals as goal

pub returns-clause-log : goal.returns-clause-log
returns-clause-log g c =
    made_log (g.P.PageStore.model c.args.pages) (g.P.PageStore.model c.power_on.new.self) c.power_on.ensures c.end-len.result c.end-len.ensures (replicate 60 0)

pub returns-clause-agrees : goal.returns-clause-agrees
returns-clause-agrees g c =
    made_agrees (g.P.PageStore.model c.args.pages) (g.P.PageStore.model c.power_on.new.self) c.power_on.ensures c.end-len.result c.end-len.ensures (replicate 60 0)
