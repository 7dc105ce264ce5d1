-- Which compensation of a log stands for which change, that it takes back just that change, and that none does so twice. Assumes nothing.
use Rattle.std.specs.Prelude.{◌≡◌, ℕ, pred, Bool, false, Some}
use Rattle.format.specs.declared.slot.Slot.TheVariants.{Record}
use Rattle.format.specs.declared.slot.PageRecord.{PageRecord}
use Rattle.format.specs.declared.slot.Action.{Action}
use Rattle.format.specs.declared.slot.Action.TheVariants.{Put, TakeBack}
use Rattle.recovery_log.specs.Log.{Log, next}
use Rattle.rules.specs.Reading.{at, up_to}

module _ {C : Type 0} where
  -- slot n of the log is that record, and its action is that one
  pub record Acts (a : Action) (L : Log C) (n : ℕ) (r : PageRecord C) : Type 0 where
    pub slot : at L n ≡ Some (Record r)
    pub action : r.action ≡ a

  -- slot n is a change
  abbrev pub Change : Log C → ℕ → PageRecord C → Type 0
  Change L n r = Acts Put L n r

  -- slot n is a compensation
  abbrev pub Compensation : Log C → ℕ → PageRecord C → Type 0
  Compensation L n r = Acts TakeBack L n r

  -- the change for which compensation r in slot n stands: the one that was its job's next just before it
  abbrev pub stands_for : Log C → ℕ → PageRecord C → ℕ
  stands_for L n r = next (up_to (pred n) L) r.job

  -- there is such a change, and the compensation has its page, its job, its link and what it put
  pub record TakesBack (L : Log C) (n : ℕ) (r : PageRecord C) : Type 0 where
    pub taken : PageRecord C
    pub stands : Change L (stands_for L n r) taken
    pub page : r.page ≡ taken.page
    pub job : r.job ≡ taken.job
    pub link : r.link ≡ taken.link
    pub change : r.change ≡ taken.change

  abbrev pub AllTakeBack : Log C → Type 0
  AllTakeBack L = (n : ℕ) (r : PageRecord C) → Compensation L n r → TakesBack L n r

  -- no two compensations stand for one change
  abbrev pub NeverTwice : Log C → Type 0
  NeverTwice L = (n k : ℕ) (r s : PageRecord C) → Compensation L n r → Compensation L k s → stands_for L n r ≡ stands_for L k s → n ≡ k

  -- a compensation in some slot stands for change n, and it is the only one
  pub record ExactlyOnce (L : Log C) (n : ℕ) : Type 0 where
    pub slot : ℕ
    pub record' : PageRecord C
    pub compensation : Compensation L slot record'
    pub this : stands_for L slot record' ≡ n
    pub only : (k : ℕ) (r : PageRecord C) → Compensation L k r → stands_for L k r ≡ n → k ≡ slot

  -- exactly one compensation stands for each change whose job is not kept
  abbrev pub AllOnce : (ℕ → Bool) → Log C → Type 0
  AllOnce kept L = (n : ℕ) (r : PageRecord C) → Change L n r → kept r.job ≡ false → ExactlyOnce L n
