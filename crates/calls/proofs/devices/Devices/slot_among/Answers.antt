use Rattle.std.proofs.Common.{sym, ◌∙◌, arith}
use Rattle.calls.proofs.Logs.{at_among, none_before, none_above}
use Rattle.calls.proofs.devices.Devices.slot_among.Goals.{then-number-first-via-then-number-first, then-number-first-via-else-number-first+then-last-number}
use Rattle.calls.proofs.devices.Devices.slot_among.Goals as goal

pub returns-then-number-first : goal.returns-then-number-first
returns-then-number-first g c = elim c.then-number-first.branch [
  | then-number-first-via-then-number-first w ↦ sym (none_before g.K.Change.meaning c.args.self.now c.args.first c.args.last c.args.number c.requires.2 w.if-number-first.true)
  | then-number-first-via-else-number-first+then-last-number w ↦ sym (none_above g.K.Change.meaning c.args.self.now c.args.first c.args.last c.args.number c.requires.2 w.if-last-number.true)
]

pub returns : goal.returns
returns g c = c.slot.ensures ∙ sym (at_among g.K.Change.meaning c.args.self.now c.args.first c.args.last c.args.number c.requires.2 (let k = c.requires.1 in omega arith) c.if-number-first.false c.if-last-number.false)
