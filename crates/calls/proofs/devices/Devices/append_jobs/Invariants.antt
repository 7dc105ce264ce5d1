use Rattle.std.proofs.Common.{map, take}
use Rattle.rules.specs.Plans.{append}
use Rattle.rules.specs.Service.{job_entries}
use Rattle.calls.proofs.Operations.{AllDone}
use Rattle.calls.proofs.devices.Devices.append_jobs.Given as goal

abbrev pub invariant-loop-place : goal.invariant-loop-place
invariant-loop-place g l = AllDone g.K.Change.meaning (map append (job_entries g.K.Change.meaning (take l.place l.jobs))) l.fn.self l.self
