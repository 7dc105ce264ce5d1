use Rattle.std.proofs.Common.{rules, ◌≡◌, Err, arith}
use Rattle.rules.specs.Restart.{tables, gather}
use Rattle.calls.proofs.Analysing.{begins, goes_on, ends_early, ends_well}
use Rattle.calls.proofs.devices.Devices.gather_from.Goals as goal

pub loop-number-init : goal.loop-number-init
loop-number-init g c =
    let r = c.requires in
    (omega arith, r.3, begins c.args.from gather (tables c.args.jobs.now c.args.dirty.now) g.K.Change.meaning c.args.self.now c.args.end r.2)

pub returns-in_err-gather : goal.returns-in_err-gather
returns-in_err-gather g c =
    let r = c.requires in
    let i = c.loop-number.invariant in
    let why : c.from_residual.result ≡ Err c.in_err-gather.field-0.0 = search rules in
    ends_early c.args.from gather (tables c.args.jobs.now c.args.dirty.now) g.K.Change.meaning c.args.self.now c.args.end c.loop-number.number r.2 i.0 c.loop-number-test.true (let k = r.4 in omega arith)
    i.2 c.in_err-gather.ensures c.from_residual.result why c.gather.new.jobs c.gather.new.dirty

pub loop-number-preserved : goal.loop-number-preserved
loop-number-preserved g c =
    let r = c.requires in
    let i = c.loop-number.invariant in
    let t = c.loop-number-test.true in (
      let j = i.0 in omega arith,
      omega arith,
      goes_on c.args.from gather (tables c.args.jobs.now c.args.dirty.now) g.K.Change.meaning c.args.self.now c.args.end c.loop-number.number r.2 i.0 t (let k = r.4 in omega arith) i.2 c.in_ok-gather.ensures,
    )

pub returns : goal.returns
returns g c =
    let i = c.loop-number.invariant in
    let j = i.1 in
    let t = c.loop-number-test.false in
    ends_well c.args.from gather (tables c.args.jobs.now c.args.dirty.now) g.K.Change.meaning c.args.self.now c.args.end c.loop-number.number (omega arith) i.2
