use Rattle.std.proofs.Common.{length, ap, ◌∙◌, arith}
use Rattle.changes.specs.PatchForm.{patch_ok}
use Rattle.changes.specs.Patches.{patch_of}
use Rattle.changes.specs.PatchLaws.{patch_is, padded_ok, padded_is}
use Rattle.format.proofs.Rows.{not_empty}
use Rattle.changes.proofs.patch.Patch.new.Goals as goal

pub invariant_of-result : goal.invariant_of-result
invariant_of-result c =
    let some = not_empty c.args.bytes.now c.if-is_empty.ensures in
    let is = padded_is c.args.bytes.now c.copy_from_slice.new.self c.copy_from_slice.ensures.after in
    let ok = padded_ok c.args.offset c.args.bytes.now some (omega arith) (omega arith) (λ k. omega (arith, c.type_inv.bytes k)) in
    record { formed = ap (patch_ok c.args.offset (length c.args.bytes.now)) is ∙ ok }

pub returns-clause-made : goal.returns-clause-made
returns-clause-made c =
    patch_is _ ∙ ap (patch_of c.args.offset (length c.args.bytes.now)) (padded_is c.args.bytes.now c.copy_from_slice.new.self c.copy_from_slice.ensures.after)
