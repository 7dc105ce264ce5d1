use Rattle.std.proofs.Common.{rules, ◌≡◌, Some}
use Rattle.format.specs.declared.slot.Slot.TheVariants.{Checkpoint}
use Rattle.format.specs.declared.slot.CheckpointPart.TheVariants.{DirtyPage}
use Rattle.calls.specs.Readers.{slot_of}
use Rattle.calls.proofs.Analysing.{entry_page}
use Rattle.calls.proofs.devices.Devices.gather.Goals as goal

pub gather_page-requires : goal.gather_page-requires
gather_page-requires g c =
    let m = g.K.Change.meaning in
    let entry = c.in-Some-Checkpoint-DirtyPage in
    let is : Some (Checkpoint (DirtyPage entry.page entry.start)) ≡ slot_of m c.args.self.now c.args.number = search rules in
    entry_page m g.met.K.Change.lawful c.args.self.now c.args.number entry.page entry.start is c.requires.1
