use Rattle.std.proofs.Common.{rules, ◌≡◌, Err}
use Rattle.rules.specs.Plans.{done, performed}
use Rattle.calls.proofs.Analysing.{wrong_sizes, does_analysis}
use Rattle.calls.proofs.Performing.{ends_in}
use Rattle.calls.proofs.state.State.analysis.Goals as goal

pub returns-in_err-check : goal.returns-in_err-check
returns-in_err-check g c =
    rw (← c.self.view_is) (wrong_sizes g.K.Change.meaning _ c.has_legal_sizes.result c.has_legal_sizes.ensures c.from_residual.result c.in_err-check.ensures (search rules))

pub returns-in_err-self-inside : goal.returns-in_err-self-inside
returns-in_err-self-inside g c =
    let m = g.K.Change.meaning in
    let why : c.from_residual-in_err-self-inside.result ≡ Err c.in_err-self-inside.field-0.0 = search rules in
    rw (← c.self.view_is) (does_analysis m _ c.has_legal_sizes.result c.has_legal_sizes.ensures c.power_on.new.self _ c.in_ok-check.ensures c.power_on.ensures c.in_err-self-inside.ensures (ends_in m why done))

pub returns : goal.returns
returns g c =
    let m = g.K.Change.meaning in
    rw (← c.self.view_is) (does_analysis m _ c.has_legal_sizes.result c.has_legal_sizes.ensures c.power_on.new.self _ c.in_ok-check.ensures c.power_on.ensures c.in_ok-self-inside.ensures
    (rw (c.count.ensures.value, c.count-2.ensures.value) (performed done)))
