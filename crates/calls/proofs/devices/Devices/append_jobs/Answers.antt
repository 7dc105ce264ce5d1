use Rattle.std.proofs.Common.{rules, ◌≡◌, [], Err, subst, sym, take_all}
use Rattle.calls.proofs.Checkpointing.{job_ops, job_more, job_there}
use Rattle.calls.proofs.Operations.{AllDone, nothing, one_more, then_failed, performed_all}
use Rattle.calls.proofs.devices.Devices.append_jobs.Goals as goal

pub loop-place-init : goal.loop-place-init
loop-place-init g c = nothing

pub loop-place-preserved : goal.loop-place-preserved
loop-place-preserved g c =
    let m = g.K.Change.meaning in
    subst (λ ops. AllDone m ops c.args.self.now c.append.new.self) (sym (job_more m c.args.jobs.now c.loop-place.place _ c.loop-place-test.true)) (one_more m c.loop-place.invariant c.in_ok-append.ensures)

pub returns-in_err-append : goal.returns-in_err-append
returns-in_err-append g c =
    let m = g.K.Change.meaning in
    let why : c.from_residual.result ≡ Err c.in_err-append.field-0.0 = search rules in
    rw (why, job_there m c.args.jobs.now c.loop-place.place (record { job = 0; next = 0; holds = [] }) c.loop-place-test.true) (then_failed m _ c.loop-place.invariant c.in_err-append.ensures)

pub returns : goal.returns
returns g c =
    let m = g.K.Change.meaning in
    performed_all m (subst (λ jobs. AllDone m (job_ops m jobs) c.args.self.now c.loop-place.self) (take_all c.loop-place.place c.args.jobs.now c.loop-place-test.false) c.loop-place.invariant)
