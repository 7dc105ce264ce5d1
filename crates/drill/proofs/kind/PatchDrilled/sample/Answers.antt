-- The offset is below 5, and the change has four bytes: such a change there is.
use Rattle.std.proofs.Common.{◌∙◌, arith}
use Rattle.std.proofs.lemmas.Bool.Decides.{nat_tests}
use Rattle.drill.proofs.kind.PatchDrilled.sample.Goals as goal

pub unwrap-requires : goal.unwrap-requires
unwrap-requires c = c.new.ensures.range ∙ grind (arith, nat_tests)
