use Rattle.std.proofs.Common.{rules, ◌≡◌, Err, ap, ◌∙◌, arith}
use Rattle.calls.specs.TakingBack.{end_if_done}
use Rattle.calls.proofs.Undoing.{broken_off, is_full, is_free, not_done, end_full, end_fails, end_done}
use Rattle.calls.proofs.devices.Devices.end_if_done.Goals as goal

pub returns-then-next-ne0 : goal.returns-then-next-ne0
returns-then-next-ne0 g c = λ d u copies n un. not_done g.K.Change.meaning un c.args.next c.args.job (λ z. omega arith)

pub returns-in_err-check_slot : goal.returns-in_err-check_slot
returns-in_err-check_slot g c = λ d u copies n un.
    let m = g.K.Change.meaning in
    let why : c.from_residual.result ≡ Err c.in_err-check_slot.field-0.0 = search rules in
    let full = is_full m c.args.self.now c.in_err-check_slot.field-0.0 c.in_err-check_slot.ensures.value in
    broken_off m (end_if_done m d.log.capacity c.args.next c.args.job u) c.args.jobs.now copies n (why ∙ ap Err full.1)
    (end_full m un c.args.next c.args.job (omega arith) full.0)

pub returns-in_err-append : goal.returns-in_err-append
returns-in_err-append g c = λ d u copies n un.
    let m = g.K.Change.meaning in
    let why : c.from_residual-in_err-append.result ≡ Err c.in_err-append.field-0.0 = search rules in
    broken_off m (end_if_done m d.log.capacity c.args.next c.args.job u) c.args.jobs.now copies n why
    (end_fails m un c.args.next c.args.job (omega arith) (is_free m c.args.self.now c.in_ok-check_slot.ensures.value) c.in_err-append.ensures)

pub returns : goal.returns
returns g c = λ d u copies n un.
    let m = g.K.Change.meaning in
    end_done m un c.args.next c.args.job (omega arith) (is_free m c.args.self.now c.in_ok-check_slot.ensures.value) c.in_ok-append.ensures c.remove.ensures
