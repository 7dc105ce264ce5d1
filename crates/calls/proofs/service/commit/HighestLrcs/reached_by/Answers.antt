use Rattle.std.proofs.Common.{◌≡◌, true, ltb, slice_index_or, sym, refl, ap, arith}
use Rattle.std.proofs.lemmas.Bool.{lt-ltb}
use Rattle.rules.specs.Service.{copy_of}
use Rattle.calls.proofs.Committing.{reaches, all_pass, one_fails}
use Rattle.calls.proofs.service.commit.HighestLrcs.reached_by.Goals as goal

pub returns-then-copy_of-self : goal.returns-then-copy_of-self
returns-then-copy_of-self c =
    let page = c.loop-page.page in
    let held = c.if-holds-page.true in
    let copy = ap (λ k. k.lrc) c.copy_of.ensures in
    let below : ltb (copy_of c.args.copies.now page).lrc (slice_index_or c.args.self.now.of_page page 0) ≡ true = lt-ltb _ _ (let k = c.if-copy_of-self.true in omega arith) in
    sym (one_fails (reaches c.args.copies.now c.args.self.now.of_page) c.args.holds.now page (let t = c.told-holds in let k = c.loop-page-test.true in omega arith) (rw (held, below) refl))

pub returns : goal.returns
returns c = sym (all_pass (reaches c.args.copies.now c.args.self.now.of_page) c.args.holds.now
    (λ p lt. c.loop-page.invariant p (let t = c.told-holds in let k = c.loop-page-test.false in omega arith)))
