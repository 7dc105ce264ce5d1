use Rattle.std.proofs.Common.{sym}
use Rattle.std.proofs.lemmas.List.{set_past}
use Rattle.calls.proofs.copies.set_copy.Goals as goal

pub returns-else-place-copies : goal.returns-else-place-copies
returns-else-place-copies c = sym (set_past c.args.copies.now c.args.page c.args.copy c.if-place-copies.false)
