use Rattle.std.proofs.Common.{rules, ◌≡◌, true, false, get_or, Some}
use Rattle.format.specs.declared.slot.Slot.TheVariants.{Record}
use Rattle.calls.proofs.BringingUp.{played_on, passed_over}
use Rattle.calls.proofs.taking_back.play_held.Goals as goal

pub returns-then-unwrap_or : goal.returns-then-unwrap_or
returns-then-unwrap_or g c = λ L before so.
    let r = c.in-Some-Record.found in
    let is : c.args.slot ≡ Some (Record r) = search rules in
    let held : get_or c.args.holds.now r.page false ≡ true = search rules in
    played_on g.K.Change.meaning c.args.holds.now L before c.args.slot r is c.args.copies.now so held c.set_copy.new.copies (search rules)

pub returns : goal.returns
returns g c = λ L before so.
    let r = c.in-Some-Record.found in
    let is : c.args.slot ≡ Some (Record r) = search rules in
    let free : get_or c.args.holds.now r.page false ≡ false = search rules in
    passed_over g.K.Change.meaning c.args.holds.now L before c.args.slot r is c.args.copies.now so free
