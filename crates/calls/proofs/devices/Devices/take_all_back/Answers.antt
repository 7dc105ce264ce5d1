use Rattle.std.proofs.Common.{rules, ◌≡◌, Some, None, Err, sym, refl, subst, ◌∙◌, arith}
use Rattle.rules.specs.declared.refusal.Refusal.TheVariants.{LogUnreadable}
use Rattle.calls.specs.TakingBack.{OutcomeOfAppends, job_taken_back}
use Rattle.calls.proofs.Aborting.{begins, no_change, one_back, one_fails, links_fall}
use Rattle.calls.proofs.Appending.{at_entry, kept_by, power_after}
use Rattle.calls.proofs.devices.Devices.take_all_back.Goals as goal

pub loop-number-init : goal.loop-number-init
loop-number-init g c = record {
  last = c.log_length-last.ensures.value;
  power = c.requires.0;
  going = begins g.K.Change.meaning c.args.first c.args.job c.args.self.now _ refl;
}

pub change-requires : goal.change-requires
change-requires g c =
    let i = c.loop-number.invariant in
    let longer = (kept_by g.K.Change.meaning i.going.work_done.appended).longer in
    (i.power, c.requires.1, let e = i.last in omega arith)

pub loop-number-smaller : goal.loop-number-smaller
loop-number-smaller g c =
    let found : Some c.in_ok-change.change ≡ c.change.result = search rules in
    links_fall g.K.Change.meaning c.loop-number.self c.args.first g.met.K.Change.lawful c.args.job c.log_length-last.result c.loop-number.number c.in_ok-change.change (found ∙ c.change.ensures)

pub returns-in_err-change-clause-went : goal.returns-in_err-change-clause-went
returns-in_err-change-clause-went g c =
    let m = g.K.Change.meaning in
    let i = c.loop-number.invariant in
    let d = c.args.self.now in
    let E = job_taken_back m d c.args.job c.args.newest c.args.first c.args.copies.now in
    let why : c.from_residual.result ≡ Err LogUnreadable = search rules in
    let none : None ≡ c.change.result = search rules in
    subst (λ r. OutcomeOfAppends m E.work.appended E.why d r c.loop-number.self) (sym why)
    (no_change m c.args.first c.args.job d E (omega arith) i.going
    (at_entry m d c.loop-number.self c.args.first c.args.job c.loop-number.number i.last (none ∙ c.change.ensures)))

pub loop-number-preserved : goal.loop-number-preserved
loop-number-preserved g c =
    let m = g.K.Change.meaning in
    let i = c.loop-number.invariant in
    let d = c.args.self.now in
    let E = job_taken_back m d c.args.job c.args.newest c.args.first c.args.copies.now in
    let r = c.in_ok-change.change in
    let found : Some r ≡ c.change.result = search rules in
    record {
      last = i.last;
      power = power_after m c.in_ok-take_back.ensures.appended;
      going = rw c.in_ok-take_back.ensures.played (one_back m c.args.first c.args.job d E (omega arith) i.going r
          (at_entry m d c.loop-number.self c.args.first c.args.job c.loop-number.number i.last (found ∙ c.change.ensures))
          g.met.K.Change.lawful c.in_ok-take_back.ensures.appended);
    }

pub returns-in_err-take_back-clause-went : goal.returns-in_err-take_back-clause-went
returns-in_err-take_back-clause-went g c =
    let m = g.K.Change.meaning in
    let i = c.loop-number.invariant in
    let d = c.args.self.now in
    let E = job_taken_back m d c.args.job c.args.newest c.args.first c.args.copies.now in
    let r = c.in_ok-change.change in
    let found : Some r ≡ c.change.result = search rules in
    let why : c.from_residual-in_err-take_back.result ≡ Err c.in_err-take_back.field-0.0 = search rules in
    subst (λ r. OutcomeOfAppends m E.work.appended E.why d r c.take_back.new.self) (sym why)
    (one_fails m c.args.first c.args.job d E (omega arith) i.going r
    (at_entry m d c.loop-number.self c.args.first c.args.job c.loop-number.number i.last (found ∙ c.change.ensures))
    c.in_err-take_back.ensures.appended)
