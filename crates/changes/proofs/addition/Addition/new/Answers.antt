use Rattle.changes.specs.AdditionLaws.{addition_is}
use Rattle.changes.proofs.addition.Addition.new.Goals as goal

pub returns-clause-made : goal.returns-clause-made
returns-clause-made c = addition_is _
