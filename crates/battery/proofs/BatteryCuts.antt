-- The count of battery memory's writes or forces comes to the number that was set, once.
use Rattle.std.proofs.Common.{◌≡◌, ℕ, zero, suc, min, ◌≤◌, false, cond, Option, Some, None, ◌∙◌, ap, eqb, sym, refl, arith}
use Rattle.std.proofs.Math.Dec.{eqb-suc-suc}
use Rattle.std.proofs.lemmas.Bool.Decides.{nat_tests}
use Rattle.std.proofs.lemmas.Bool.{cond_both}
use Rattle.std.specs.Prelude.{◌==◌}
use Rattle.battery.specs.declared.PowerCut.{PowerCut}
use Rattle.battery.specs.Batteries.{cut_at, cuts_now, next_cut, cut_after, LostIn, LostOnce, standing}

-- a step now is a step then
next_first : (n : ℕ) (c : Option PowerCut) → cut_after (suc n) c ≡ cut_after n (next_cut c)
next_first zero c = refl
next_first (suc n) c = ap next_cut (next_first n c)

-- with no cut no power is lost
never : (n : ℕ) → cuts_now (cut_after n None) ≡ false
never zero = refl
never (suc n) = ap cuts_now (next_first n None) ∙ never n

lost_at : (number stands : ℕ) → LostIn (cut_at number stands) (eqb number)
lost_at zero stands n = let e = never n in grind (arith, nat_tests)
lost_at (suc k) stands zero = sym (eqb-suc-suc k 0)
lost_at (suc k) stands (suc n) = ap cuts_now (next_first n (cut_at (suc k) stands)) ∙ lost_at k stands n ∙ sym (eqb-suc-suc k (suc n))

pub lost_in : (cut : Option PowerCut) (number stands : ℕ) → cut ≡ cut_at number stands → LostIn cut (eqb number)
lost_in cut number stands is = rw is (lost_at number stands)

pub lost_once : (c : Option PowerCut) → LostOnce c
lost_once None n = never n
lost_once (Some c) n = lost_at (suc c.after) c.stands n

-- where no power is lost, all that is new stands
pub all_stand : (c : Option PowerCut) (new : ℕ) → cuts_now c ≡ false → standing c new ≡ new
all_stand None new e = refl
all_stand (Some c) new e = ap (λ b. cond b (min new c.stands) new) e

-- no more stands than is new
pub stand_few : (c : Option PowerCut) (new : ℕ) → standing c new ≤ new
stand_few None new = omega arith
stand_few (Some c) new = cond_both (c.after == 0) (min new c.stands) new (λ k. k ≤ new) (λ e. omega arith) (λ e. omega arith)
