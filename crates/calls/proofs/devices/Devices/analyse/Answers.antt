use Rattle.std.proofs.Common.{rules, ◌≡◌, Some}
use Rattle.format.specs.declared.slot.Slot.TheVariants.{Record}
use Rattle.calls.specs.Readers.{slot_of}
use Rattle.calls.proofs.Analysing.{record_page}
use Rattle.calls.proofs.devices.Devices.analyse.Goals as goal

pub analyse_record-requires : goal.analyse_record-requires
analyse_record-requires g c =
    let m = g.K.Change.meaning in
    let is : Some (Record c.in-Some-Record.record) ≡ slot_of m c.args.self.now c.args.number = search rules in
    record_page m g.met.K.Change.lawful c.args.self.now c.args.number c.in-Some-Record.record is c.requires.1
