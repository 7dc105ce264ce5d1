use Rattle.std.proofs.Common.{refl, ◌∙◌, arith}
use Rattle.calls.proofs.Owing.{none_counted, owes, owed_few}
use Rattle.calls.proofs.state.State.owed.Goals as goal

pub slots-requires : goal.slots-requires
slots-requires g c =
    let m = g.K.Change.meaning in
    let s = c.self.inside in
    let r = c.read_log.new.reader in
    let said = c.read_log.ensures (refl, none_counted g.row.K.Denot c.listed.result.now c.listed.ensures.few) in
    let is = owes m s.devices s.stage s.jobs s.dirty s.copies.items s.first r.jobs.now r.counts c.self.view_is c.requires (said.0 ∙ c.listed.ensures.value) said.1 in
    let few = owed_few m c.args.self.now c.requires in
    omega arith

pub returns : goal.returns
returns g c =
    let s = c.self.inside in
    let r = c.read_log.new.reader in
    let said = c.read_log.ensures (refl, none_counted g.row.K.Denot c.listed.result.now c.listed.ensures.few) in
    rw c.slots.ensures (owes g.K.Change.meaning s.devices s.stage s.jobs s.dirty s.copies.items s.first r.jobs.now r.counts c.self.view_is c.requires (said.0 ∙ c.listed.ensures.value) said.1)
