use Rattle.std.proofs.Common.{rules}
use Rattle.std.proofs.lemmas.Fn.{filter_same}
use Rattle.tables.proofs.Words.{without_job_is}
use Rattle.tables.proofs.jobs.JobTable.remove.Goals as goal

pub returns : goal.returns
returns c = rw (without_job_is, ← c.self.view_is) (filter_same _ _ _ (λ x b f' k. search rules) _ _ c.retain.ensures.filtered)
