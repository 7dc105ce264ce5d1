use Rattle.std.proofs.Common.{◌≡◌, true}
use Rattle.rules.specs.State.{log_length}
use Rattle.calls.specs.TakingBack.{job_taken_back}
use Rattle.calls.proofs.Aborting.{Going}
use Rattle.calls.proofs.devices.Devices.take_all_back.Given as goal

abbrev pub decreases-loop-number : goal.decreases-loop-number
decreases-loop-number g l = l.number

abbrev pub invariant-loop-number : goal.invariant-loop-number
invariant-loop-number g l = record {
  last : l.last ≡ log_length l.fn.self;
  power : l.self.log.powered ≡ true;
  going : Going g.K.Change.meaning l.first l.job l.fn.self (job_taken_back g.K.Change.meaning l.fn.self l.job l.fn.newest l.first l.fn.copies) l.number l.self l.copies;
}
