use Rattle.std.proofs.Common.{rules, ◌≡◌, Some, None, Err, subst, take, take_all, append-nil}
use Rattle.calls.proofs.Checkpointing.{page_ops, page_more, page_there}
use Rattle.calls.proofs.Operations.{AllDone, nothing, one_more, then_failed, performed_all}
use Rattle.calls.proofs.devices.Devices.append_pages.Goals as goal
use Rattle.calls.proofs.devices.Devices.append_pages.Goals.{in-Some+in_ok-append+in-Record-1, in-Some+in_ok-append+in-Job-1, in_default}

pub loop-page-init : goal.loop-page-init
loop-page-init g c = nothing

pub loop-page-preserved : goal.loop-page-preserved
loop-page-preserved g c =
    let m = g.K.Change.meaning in
    let more = page_more m c.args.firsts.now c.loop-page.page c.loop-page-test.true in
    let i = c.loop-page.invariant in
    elim c.match-first.branch [
      | in-Some+in_ok-append+in-Record-1 w ↦ rw (w.self-is, more (Some w.in-Some.start) w.in-Some.is) (one_more m i w.in_ok-append.ensures)
      | in-Some+in_ok-append+in-Job-1 w ↦ rw (w.self-is, more (Some w.in-Some.start) w.in-Some.is) (one_more m i w.in_ok-append.ensures)
      | in_default w ↦ rw (w.self-is, more None w.in_default.is, append-nil (page_ops m 0 (take c.loop-page.page c.args.firsts.now))) i
    ]

pub returns-in_err-append : goal.returns-in_err-append
returns-in_err-append g c =
    let m = g.K.Change.meaning in
    let why : c.from_residual.result ≡ Err c.in_err-append.field-0.0 = search rules in
    rw (why, page_there m c.args.firsts.now c.loop-page.page c.loop-page-test.true (Some c.in-Some.start) c.in-Some.is) (then_failed m _ c.loop-page.invariant c.in_err-append.ensures)

pub returns : goal.returns
returns g c =
    let m = g.K.Change.meaning in
    performed_all m (subst (λ firsts. AllDone m (page_ops m 0 firsts) c.args.self.now c.loop-page.self) (take_all c.loop-page.page c.args.firsts.now c.loop-page-test.false) c.loop-page.invariant)
