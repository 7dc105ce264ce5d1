use Rattle.std.proofs.Common.{◌≡◌, ◌++◌, take, drop}
use Rattle.changes.specs.Patches.{xored}
use Rattle.changes.proofs.patch.change.xor_into.Given as goal

abbrev pub invariant-loop-i : goal.invariant-loop-i
invariant-loop-i l = take l.i l.part ++ xored (drop l.i l.mask) (drop l.i l.part) ≡ xored l.mask l.initial.part
