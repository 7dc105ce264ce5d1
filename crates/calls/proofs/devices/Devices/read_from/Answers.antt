use Rattle.std.proofs.Common.{◌≡◌, ◌+◌, pred, subst, arith}
use Rattle.calls.specs.Readers.{read_up_to}
use Rattle.calls.proofs.Logs.{read_all, shown, until_first}
use Rattle.calls.proofs.devices.Devices.read_from.Goals as goal

pub loop-number-init : goal.loop-number-init
loop-number-init g c = (
  c.requires.1,
  omega arith,
  c.log_length-number-end.ensures.value,
  λ begun. until_first g.K.Change.meaning c.args.self.now c.args.first (g.R.Reader.says c.args.reader.now c.args.reader.now) (g.met.R.Reader.unread c.args.reader.now c.args.reader.now) begun (pred c.args.first)
      (let k = c.requires.1 in omega arith),
)

pub loop-number-preserved : goal.loop-number-preserved
loop-number-preserved g c =
    let n = c.loop-number.number in
    let i = c.loop-number.invariant in
    let back : n ≡ pred (n + 1) = omega arith in (
      omega arith,
      let k = i.1 in omega arith,
      i.2,
      λ begun. subst (λ k. g.R.Reader.says c.args.reader.now c.show.new.reader (read_up_to g.K.Change.meaning c.args.self.now c.args.first k)) back
          (shown g.K.Change.meaning c.args.self.now c.args.first (g.R.Reader.says c.args.reader.now c.loop-number.reader) (g.R.Reader.says c.args.reader.now c.show.new.reader) n i.0 i.1
          (let k = i.2 in let t = c.loop-number-test.true in omega arith) (c.show.ensures c.args.reader.now) (i.3 begun)),
    )

pub returns : goal.returns
returns g c = λ begun. let i = c.loop-number.invariant in
    subst (g.R.Reader.says c.args.reader.now c.loop-number.reader) (read_all g.K.Change.meaning c.args.self.now c.args.first (pred c.loop-number.number) (let k = i.2 in let t = c.loop-number-test.false in omega arith)) (i.3 begun)

pub returns-2 : goal.returns-2
returns-2 g c = λ begun. let i = c.loop-number.invariant in
    subst (g.R.Reader.says c.args.reader.now c.show.new.reader) (read_all g.K.Change.meaning c.args.self.now c.args.first c.loop-number.number (let k = i.2 in omega arith))
    (shown g.K.Change.meaning c.args.self.now c.args.first (g.R.Reader.says c.args.reader.now c.loop-number.reader) (g.R.Reader.says c.args.reader.now c.show.new.reader) c.loop-number.number i.0 i.1
    (let k = i.2 in let t = c.loop-number-test.true in omega arith) (c.show.ensures c.args.reader.now) (i.3 begun))
