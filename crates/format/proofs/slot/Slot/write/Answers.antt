use Rattle.std.proofs.Common.{List, ℕ, get_or, ap, ◌∙◌, subst}
use Rattle.format.specs.Slots.{only_used, laid_out, Sized, read_slot}
use Rattle.format.proofs.Encoding.{all_used, written_reads}
use Rattle.format.proofs.Unused.{unused_byte}
use Rattle.format.proofs.slot.Slot.write.Goals as goal

pub returns-clause-reads : goal.returns-clause-reads
returns-clause-reads g c = λ pages number fit.
    let m = g.C.Change.meaning in
    let law = g.met.C.Change.lawful in
    let s = c.args.self.now in
    let fields = c.only_used.ensures ∙ ap only_used c.fields.ensures in
    let sized = subst Sized (fields ∙ all_used m law s) c.write.ensures.sized in
    ap (read_slot m pages number) (c.write.ensures.value ∙ ap laid_out fields) ∙ written_reads m law pages number s sized fit

pub returns-clause-unused : goal.returns-clause-unused
returns-clause-unused g c = λ i free.
    let fields = c.only_used.ensures ∙ ap only_used c.fields.ensures in
    ap (λ (xs : List ℕ). get_or xs i 0) (c.write.ensures.value ∙ ap laid_out fields)
    ∙ unused_byte g.C.Change.meaning g.met.C.Change.lawful c.args.self.now i free
