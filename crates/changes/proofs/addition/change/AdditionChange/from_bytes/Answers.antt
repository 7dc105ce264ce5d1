use Rattle.std.proofs.Common.{◌≡◌, get_or, sym, ap, ◌∙◌, arith}
use Rattle.std.proofs.lemmas.Bool.{both_ways}
use Rattle.changes.specs.Additions.{addition_of}
use Rattle.format.specs.Bytes.{Bytes}
use Rattle.changes.proofs.AdditionReads.{no_addition, unused_stand, addition_reads, addition_stands}
use Rattle.format.proofs.Rows.{all_zero_part}
use Rattle.changes.proofs.addition.change.AdditionChange.from_bytes.Goals as goal

pub returns-then-not-all_zero : goal.returns-then-not-all_zero
returns-then-not-all_zero c =
    let b = c.args.bytes.now in
    let used = all_zero_part b 8 32 c.all_zero.result c.all_zero.ensures (omega arith) ∙ c.if-not-all_zero.true in
    no_addition b (λ e. both_ways _ used (unused_stand b e))

pub returns : goal.returns
returns c =
    let b = c.args.bytes.now in
    let rest = all_zero_part b 8 32 c.all_zero.result c.all_zero.ensures (omega arith) ∙ c.if-not-all_zero.false in
    let fit : Bytes 40 b = record { size = c.told-bytes; small = c.fits-bytes } in
    let first : get_or b 0 0 ≡ 2 = omega arith in
    let third : get_or b 2 0 ≡ 0 = omega arith in
    let fourth : get_or b 3 0 ≡ 0 = omega arith in
    record {
      reads = c.new.ensures.made ∙ ap (addition_of (get_or b 1 0)) c.number_at.ensures ∙ sym (addition_reads b fit first third fourth rest);
      forms = c.new.ensures.range ∙ sym (addition_stands b fit first third fourth rest);
    }
