use Rattle.std.proofs.Common.{◌≡◌, ◌∷◌, ◌+◌, pred, subst, arith}
use Rattle.calls.specs.Readers.{read_up_to}
use Rattle.calls.specs.TakingBack.{brought_up}
use Rattle.calls.proofs.BringingUp.{nothing_brought}
use Rattle.calls.proofs.Logs.{read_all, shown, until_first}
use Rattle.calls.proofs.devices.Devices.bring_up.Goals as goal

pub loop-number-init : goal.loop-number-init
loop-number-init g c = let m = g.K.Change.meaning in record {
  begun = c.requires.1;
  from = omega arith;
  until = c.log_length-number-end.ensures.value;
  so_far = until_first m c.args.self.now c.args.first (λ L. c.args.copies.now ≡ brought_up m c.args.holds.now L c.args.copies.now) (λ L p. p) (nothing_brought m c.args.holds.now c.args.copies.now)
      (pred c.args.first) (let k = c.requires.1 in omega arith);
}

pub loop-number-preserved : goal.loop-number-preserved
loop-number-preserved g c =
    let m = g.K.Change.meaning in
    let n = c.loop-number.number in
    let i = c.loop-number.invariant in
    let back : n ≡ pred (n + 1) = omega arith in
    record {
      begun = omega arith;
      from = let k = i.from in omega arith;
      until = i.until;
      so_far = subst (λ k. c.play_held.new.copies ≡ brought_up m c.args.holds.now (read_up_to m c.args.self.now c.args.first k) c.args.copies.now) back
          (shown m c.args.self.now c.args.first (λ L. c.loop-number.copies ≡ brought_up m c.args.holds.now L c.args.copies.now) (λ L. c.play_held.new.copies ≡ brought_up m c.args.holds.now L c.args.copies.now)
          n i.begun i.from (let k = i.until in let t = c.loop-number-test.true in omega arith) (λ L k p. subst (λ x. c.play_held.new.copies ≡ brought_up m c.args.holds.now (x ∷ L) c.args.copies.now) c.slot.ensures (c.play_held.ensures L c.args.copies.now p)) i.so_far);
    }

pub returns-2 : goal.returns-2
returns-2 g c =
    let m = g.K.Change.meaning in
    let n = c.loop-number.number in
    let i = c.loop-number.invariant in
    subst (λ L. c.play_held.new.copies ≡ brought_up m c.args.holds.now L c.args.copies.now) (read_all m c.args.self.now c.args.first n (let k = i.until in omega arith))
    (shown m c.args.self.now c.args.first (λ L. c.loop-number.copies ≡ brought_up m c.args.holds.now L c.args.copies.now) (λ L. c.play_held.new.copies ≡ brought_up m c.args.holds.now L c.args.copies.now)
    n i.begun i.from (let k = i.until in let t = c.loop-number-test.true in omega arith)
    (λ L k p. subst (λ x. c.play_held.new.copies ≡ brought_up m c.args.holds.now (x ∷ L) c.args.copies.now) c.slot.ensures (c.play_held.ensures L c.args.copies.now p)) i.so_far)

pub returns : goal.returns
returns g c =
    let m = g.K.Change.meaning in
    let i = c.loop-number.invariant in
    subst (λ L. c.loop-number.copies ≡ brought_up m c.args.holds.now L c.args.copies.now)
    (read_all m c.args.self.now c.args.first (pred c.loop-number.number) (let k = i.until in let t = c.loop-number-test.false in omega arith)) i.so_far
