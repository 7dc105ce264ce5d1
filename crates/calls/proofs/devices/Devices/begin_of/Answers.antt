use Rattle.std.proofs.Common.{rules, ◌≡◌, Some, Err, ap, ◌∙◌, arith}
use Rattle.format.specs.declared.slot.Slot.TheVariants.{Checkpoint}
use Rattle.format.specs.declared.slot.CheckpointPart.TheVariants.{Complete}
use Rattle.calls.specs.Passes.{started}
use Rattle.calls.specs.Readers.{slot_of}
use Rattle.calls.proofs.Analysing.{begin_before, from_its_end}
use Rattle.calls.proofs.devices.Devices.begin_of.Goals as goal

pub gather_between-requires : goal.gather_between-requires
gather_between-requires g c =
    let r = c.requires in
    let b = c.in-Some-Checkpoint-Complete.begin in
    let is : Some (Checkpoint (Complete b)) ≡ slot_of g.K.Change.meaning c.args.self.now c.args.end = search rules in
    let before = begin_before g.K.Change.meaning g.met.K.Change.lawful c.args.self.now c.args.end b is in
    (r.0, r.1, before.0, before.1, r.3, r.4, r.5)

pub returns-in_err-gather_between-clause-value : goal.returns-in_err-gather_between-clause-value
returns-in_err-gather_between-clause-value g c =
    let r = c.requires in
    let b = c.in-Some-Checkpoint-Complete.begin in
    let is : Some (Checkpoint (Complete b)) ≡ slot_of g.K.Change.meaning c.args.self.now c.args.end = search rules in
    let why : c.from_residual.result ≡ Err c.in_err-gather_between.field-0.0 = search rules in
    let before = begin_before g.K.Change.meaning g.met.K.Change.lawful c.args.self.now c.args.end b is in
    ap (λ r. started r c.gather_between.new.jobs c.gather_between.new.dirty) why
    ∙ from_its_end g.K.Change.meaning c.args.self.now c.args.end b is before.0 (let lt = before.1 in let le = r.3 in omega arith) c.in_err-gather_between.ensures

pub returns-clause-value : goal.returns-clause-value
returns-clause-value g c =
    let r = c.requires in
    let b = c.in-Some-Checkpoint-Complete.begin in
    let is : Some (Checkpoint (Complete b)) ≡ slot_of g.K.Change.meaning c.args.self.now c.args.end = search rules in
    let before = begin_before g.K.Change.meaning g.met.K.Change.lawful c.args.self.now c.args.end b is in
    from_its_end g.K.Change.meaning c.args.self.now c.args.end b is before.0 (let lt = before.1 in let le = r.3 in omega arith) c.in_ok-gather_between.ensures

pub returns-clause-inside : goal.returns-clause-inside
returns-clause-inside g c =
    let b = c.in-Some-Checkpoint-Complete.begin in
    let is : Some (Checkpoint (Complete b)) ≡ slot_of g.K.Change.meaning c.args.self.now c.args.end = search rules in
    begin_before g.K.Change.meaning g.met.K.Change.lawful c.args.self.now c.args.end b is
