use Rattle.std.proofs.Common.{rules, ◌≡◌, ◌+◌, suc, drop, get_or, [], Err, subst, arith}
use Rattle.std.proofs.Math.Seq.{drop-cons}
use Rattle.std.proofs.lemmas.List.{drop_all}
use Rattle.rules.specs.declared.table.JobEntry.{JobEntry}
use Rattle.rules.specs.Restart.{goes_on, end_idle}
use Rattle.calls.proofs.Undoing.{Idled, nothing_yet, at_first, still_powered, broken_off, idle_begins, idle_ends, one_idle, idle_breaks}
use Rattle.calls.proofs.devices.Devices.end_idle.Goals as goal

pub loop-loser-init : goal.loop-loser-init
loop-loser-init g c = λ d u copies n un. idle_begins g.K.Change.meaning c.args.losers.now un

pub end_if_done-requires : goal.end_if_done-requires
end_if_done-requires g c =
    let m = g.K.Change.meaning in
    let d = c.args.self.now in
    still_powered m (c.loop-loser.invariant d (at_first m d c.args.jobs.now []) [] 0 (nothing_yet m d c.args.jobs.now [])).undid c.requires

pub returns-in_err-end_if_done : goal.returns-in_err-end_if_done
returns-in_err-end_if_done g c = λ d u copies n un.
    let m = g.K.Change.meaning in
    let xs = c.args.losers.now in
    let i = c.loop-loser.loser-index in
    let x : JobEntry = get_or xs i (record { job = 0; next = 0; holds = [] }) in
    let why : c.from_residual.result ≡ Err c.in_err-end_if_done.field-0.0 = search rules in
    broken_off m (end_idle m d.log.capacity xs (goes_on m u)) c.end_if_done.new.jobs copies n why
    (idle_breaks m xs x (drop (suc i) xs)
    (subst (λ ys. Idled m d u xs ys c.loop-loser.self c.loop-loser.jobs copies n) (drop-cons xs i (record { job = 0; next = 0; holds = [] }) c.loop-loser-test.true) (c.loop-loser.invariant d u copies n un))
    c.end_if_done.new.jobs c.in_err-end_if_done.ensures)

pub loop-loser-preserved : goal.loop-loser-preserved
loop-loser-preserved g c = λ d u copies n un.
    let m = g.K.Change.meaning in
    let xs = c.args.losers.now in
    let i = c.loop-loser.loser-index in
    let x : JobEntry = get_or xs i (record { job = 0; next = 0; holds = [] }) in
    let one : suc i ≡ i + 1 = omega arith in
    rw (← one) (one_idle m xs x (drop (suc i) xs)
    (subst (λ ys. Idled m d u xs ys c.loop-loser.self c.loop-loser.jobs copies n) (drop-cons xs i (record { job = 0; next = 0; holds = [] }) c.loop-loser-test.true) (c.loop-loser.invariant d u copies n un))
    c.end_if_done.new.jobs c.in_ok-end_if_done.ensures)

pub returns : goal.returns
returns g c = λ d u copies n un.
    let m = g.K.Change.meaning in
    let xs = c.args.losers.now in
    idle_ends m xs (subst (λ ys. Idled m d u xs ys c.loop-loser.self c.loop-loser.jobs copies n) (drop_all c.loop-loser.loser-index xs c.loop-loser-test.false) (c.loop-loser.invariant d u copies n un))
