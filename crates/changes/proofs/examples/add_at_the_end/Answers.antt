use Rattle.std.proofs.Common.{take, ap, ◌∙◌, arith}
use Rattle.changes.specs.Additions.{addition_kind}
use Rattle.format.specs.Bytes.{number_at}
use Rattle.changes.specs.AdditionLaws.{addition_made, added}
use Rattle.changes.specs.Rewrites.{rewritten_front}
use Rattle.changes.proofs.examples.add_at_the_end.Goals as goal

pub returns-in-Some : goal.returns-in-Some
returns-in-Some c =
    let a = c.in-Some.addition in
    let d = c.args.content.now in
    let made = addition_made 248 c.args.amount a c.in-Some.ensures.made in
    record {
      others = ap (take 248) c.put.ensures ∙ rewritten_front a.offset 4 (addition_kind.forth a) d 248 (omega (arith, made.0)) (omega (arith, made.0));
      sum = ap (λ xs. number_at xs 248) c.put.ensures ∙ added a d 248 c.args.amount made (omega arith);
    }
