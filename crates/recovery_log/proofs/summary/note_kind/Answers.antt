use Rattle.std.proofs.Common.{◌≡◌, Some, sym, rules, arith}
use Rattle.std.specs.Option.{option_map}
use Rattle.recovery_log.proofs.Counting.{how_many_most, count_found, counted}
use Rattle.recovery_log.proofs.summary.note_kind.Goals as goal

pub returns-in-Some : goal.returns-in-Some
returns-in-Some g c = λ L few old.
    let s = c.in-Some.slot.now in
    let is : option_map (λ x. x.now) c.args.slot ≡ Some s = search rules in
    let k = c.kind.result in
    rw (is, old, c.from.ensures, count_found k L)
    (counted k s L c.saturating_add.result (sym c.kind.ensures) (omega (arith, few, how_many_most k L, rw (old, c.from.ensures, count_found k L) at c.saturating_add.ensures)))
