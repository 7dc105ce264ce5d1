use Rattle.std.proofs.Common.{◌≡◌, suc, min, true, false, sym, ◌∙◌, arith}
use Rattle.paged_log.specs.PagedLogs.{room}
use Rattle.paged_log.proofs.PagedLogCalls.{on_already, left_on}
use Rattle.paged_log.proofs.store.PagedLogLogStore.power_on.Goals as goal

pub returns-then-was_powered-clause-on : goal.returns-then-was_powered-clause-on
returns-then-was_powered-clause-on g c =
    let self = c.args.self.now in
    on_already (g.P.PageStore.model self.pages) (g.P.PageStore.model c.power_on.new.self) c.power_on.ensures self.len self.last
    (sym c.is_powered-was_powered.ensures ∙ c.if-was_powered.true)

pub returns-then-stands : goal.returns-then-stands
returns-then-stands g c =
    let self = c.args.self.now in
    let one : min self.len (room (g.P.PageStore.model c.power_on.new.self)) ≡ suc c.in-Some.last = omega (arith, c.in-Some.ensures, c.length.ensures) in
    let left = left_on (g.P.PageStore.model self.pages) (g.P.PageStore.model c.power_on.new.self) c.power_on.ensures self.len self.last
    (sym c.is_powered-was_powered.ensures ∙ c.if-was_powered.false) c.stands.ensures.whole c.in-Some.last one true c.if-stands.ensures.value self.len one in
    record { on = left.on; agrees = left.agrees }

pub returns : goal.returns
returns g c =
    let self = c.args.self.now in
    let one : min self.len (room (g.P.PageStore.model c.power_on.new.self)) ≡ suc c.in-Some.last = omega (arith, c.in-Some.ensures, c.length.ensures) in
    let left = left_on (g.P.PageStore.model self.pages) (g.P.PageStore.model c.power_on.new.self) c.power_on.ensures self.len self.last
    (sym c.is_powered-was_powered.ensures ∙ c.if-was_powered.false) c.stands.ensures.whole c.in-Some.last one false c.if-stands.ensures.value c.in-Some.last (omega arith) in
    record { on = left.on; agrees = left.agrees }
