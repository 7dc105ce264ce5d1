use Rattle.std.proofs.Common.{rules, ◌≡◌, Err, arith}
use Rattle.rules.specs.Restart.{tables, analyse}
use Rattle.calls.proofs.Analysing.{begins, goes_on, ends_early, ends_whole}
use Rattle.calls.proofs.devices.Devices.analyse_from.Goals as goal

pub loop-number-init : goal.loop-number-init
loop-number-init g c =
    let r = c.requires in
    let end = c.next_slot-number-end.ensures in
    let le = r.3 in
    (omega arith, omega arith, end, begins c.args.begin analyse (tables c.args.jobs.now c.args.dirty.now) g.K.Change.meaning c.args.self.now c.next_slot-number-end.result r.2)

pub returns-in_err-analyse : goal.returns-in_err-analyse
returns-in_err-analyse g c =
    let r = c.requires in
    let i = c.loop-number.invariant in
    let end = i.2 in
    let why : c.from_residual.result ≡ Err c.in_err-analyse.field-0.0 = search rules in
    ends_whole c.args.begin analyse (tables c.args.jobs.now c.args.dirty.now) g.K.Change.meaning c.args.self.now c.next_slot-number-end.result _ end
    (ends_early c.args.begin analyse (tables c.args.jobs.now c.args.dirty.now) g.K.Change.meaning c.args.self.now c.next_slot-number-end.result c.loop-number.number r.2 i.0 c.loop-number-test.true (omega arith)
    i.3 c.in_err-analyse.ensures c.from_residual.result why c.analyse.new.jobs c.analyse.new.dirty)

pub loop-number-preserved : goal.loop-number-preserved
loop-number-preserved g c =
    let r = c.requires in
    let i = c.loop-number.invariant in
    let t = c.loop-number-test.true in
    let end = i.2 in (
      let j = i.0 in omega arith,
      omega arith,
      end,
      goes_on c.args.begin analyse (tables c.args.jobs.now c.args.dirty.now) g.K.Change.meaning c.args.self.now c.next_slot-number-end.result c.loop-number.number r.2 i.0 t (omega arith) i.3 c.in_ok-analyse.ensures,
    )
