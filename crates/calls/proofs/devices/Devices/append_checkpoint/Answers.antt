use Rattle.std.proofs.Common.{rules, ◌≡◌, Err, subst}
use Rattle.format.specs.declared.slot.Slot.TheVariants.{Checkpoint}
use Rattle.format.specs.declared.slot.CheckpointPart.TheVariants.{Complete}
use Rattle.rules.specs.Plans.{append, Did, Failed, next, failed}
use Rattle.calls.proofs.Checkpointing.{checkpoint_ops}
use Rattle.calls.proofs.Operations.{were_done, then_performed, failed_before, performed_one}
use Rattle.calls.proofs.devices.Devices.append_checkpoint.Goals as goal

pub returns-in_err-append : goal.returns-in_err-append
returns-in_err-append g c =
    let m = g.K.Change.meaning in
    let why : c.from_residual.result ≡ Err c.in_err-append.field-0.0 = search rules in
    rw why (failed c.in_err-append.ensures)

pub returns-in_err-append_pages : goal.returns-in_err-append_pages
returns-in_err-append_pages g c =
    let m = g.K.Change.meaning in
    let why : c.from_residual-in_err-append_pages.result ≡ Err c.in_err-append_pages.field-0.0 = search rules in
    rw (why, checkpoint_ops m _ c.args.firsts.now c.args.jobs.now) (next c.in_ok-append.ensures (failed_before m _ c.append_pages.ensures c.in_err-append_pages.was))

pub returns-in_err-append_jobs : goal.returns-in_err-append_jobs
returns-in_err-append_jobs g c =
    let m = g.K.Change.meaning in
    let why : c.from_residual-in_err-append_jobs.result ≡ Err c.in_err-append_jobs.field-0.0 = search rules in
    rw (why, checkpoint_ops m _ c.args.firsts.now c.args.jobs.now) (next c.in_ok-append.ensures
    (then_performed m (were_done m c.append_pages.ensures c.in_ok-append_pages.was) (failed_before m _ c.append_jobs.ensures c.in_err-append_jobs.was)))

pub returns-in_err-append-2 : goal.returns-in_err-append-2
returns-in_err-append-2 g c =
    let m = g.K.Change.meaning in
    let why : c.from_residual-in_err-append-2.result ≡ Err c.in_err-append-2.field-0.0 = search rules in
    let end = subst (λ n. Failed m (append (Checkpoint (Complete n))) c.append_jobs.new.self c.in_err-append-2.field-0.0 c.append-2.new.self) c.next_slot-begin.ensures c.in_err-append-2.ensures in
    rw (why, checkpoint_ops m _ c.args.firsts.now c.args.jobs.now) (next c.in_ok-append.ensures
    (then_performed m (were_done m c.append_pages.ensures c.in_ok-append_pages.was) (then_performed m (were_done m c.append_jobs.ensures c.in_ok-append_jobs.was) (failed end))))

pub returns : goal.returns
returns g c =
    let m = g.K.Change.meaning in
    let end = subst (λ n. Did m (append (Checkpoint (Complete n))) c.append_jobs.new.self c.append-2.new.self) c.next_slot-begin.ensures c.in_ok-append-2.ensures in
    rw (checkpoint_ops m _ c.args.firsts.now c.args.jobs.now) (next c.in_ok-append.ensures
    (then_performed m (were_done m c.append_pages.ensures c.in_ok-append_pages.was) (then_performed m (were_done m c.append_jobs.ensures c.in_ok-append_jobs.was)
    (next end (performed_one m c.force.result c.force.ensures)))))
