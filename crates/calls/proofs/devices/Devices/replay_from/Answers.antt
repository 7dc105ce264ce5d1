use Rattle.std.proofs.Common.{rules, ◌≡◌, ◌+◌, pred, Err, sym, refl, ◌∙◌, arith}
use Rattle.rules.specs.declared.refusal.Refusal.TheVariants.{LogUnreadable}
use Rattle.calls.proofs.Redoing.{one_at_most, none_replayed, replay_stops, replay_more, replay_done}
use Rattle.calls.proofs.devices.Devices.replay_from.Goals as goal

pub loop-number-init : goal.loop-number-init
loop-number-init g c = (
  c.requires.1,
  omega arith,
  c.log_length-number-end.ensures.value,
  c.requires.1,
  none_replayed g.K.Change.meaning c.args.self.now c.args.dirty.now c.args.from c.args.copies.now (pred c.args.from) (let k = c.requires.1 in omega arith),
)

pub returns-in_err-slot : goal.returns-in_err-slot
returns-in_err-slot g c =
    let i = c.loop-number.invariant in
    let why : c.from_residual.result ≡ Err LogUnreadable = search rules in
    rw why (sym (replay_stops g.K.Change.meaning c.args.self.now c.args.dirty.now c.args.from c.args.copies.now c.loop-number.number i.0 i.1 (omega arith) i.4
    c.slot.ensures c.in_err-slot.ensures.ok_part refl))

pub returns-in_err-replay_slot : goal.returns-in_err-replay_slot
returns-in_err-replay_slot g c =
    let i = c.loop-number.invariant in
    let why : c.from_residual-in_err-replay_slot.result ≡ Err c.in_err-replay_slot.field-0.0 = search rules in
    rw why (sym (replay_stops g.K.Change.meaning c.args.self.now c.args.dirty.now c.args.from c.args.copies.now c.loop-number.number i.0 i.1 (omega arith) i.4
    c.slot.ensures c.in_ok-slot.ensures.ok_part (sym (c.in_err-replay_slot.ensures c.loop-number.count))))

pub loop-number-preserved : goal.loop-number-preserved
loop-number-preserved g c =
    let i = c.loop-number.invariant in
    let back : pred (c.loop-number.number + 1) ≡ c.loop-number.number = omega arith in (
      omega arith,
      let k = i.1 in omega arith,
      i.2,
      (let few = one_at_most c.in_ok-replay_slot.field-0 c.from.result c.from.ensures in let k = i.3 in omega arith),
      rw back (replay_more g.K.Change.meaning c.args.self.now c.args.dirty.now c.args.from c.args.copies.now c.loop-number.number i.0 i.1 (omega arith) i.4
          c.slot.ensures c.in_ok-slot.ensures.ok_part c.in_ok-replay_slot.field-0 _ _ c.from.ensures (c.in_ok-replay_slot.ensures c.loop-number.count)),
    )

pub returns-in_ok-replay_slot : goal.returns-in_ok-replay_slot
returns-in_ok-replay_slot g c =
    let i = c.loop-number.invariant in
    sym (replay_more g.K.Change.meaning c.args.self.now c.args.dirty.now c.args.from c.args.copies.now c.loop-number.number i.0 i.1 (omega arith) i.4
    c.slot.ensures c.in_ok-slot.ensures.ok_part c.in_ok-replay_slot.field-0 _ _ c.from.ensures (c.in_ok-replay_slot.ensures c.loop-number.count))
    ∙ replay_done g.K.Change.meaning c.args.self.now c.args.dirty.now c.args.from c.args.copies.now c.loop-number.number (omega arith)
