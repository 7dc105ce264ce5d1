-- Slots appended to battery memory and forced there: what that makes of the model, and that power is lost where it was set.
use Rattle.std.proofs.Common.{◌≡◌, ℕ, ◌+◌, ◌-◌, ◌<◌, ◌≤◌, min, Bool, true, false, cond, List, length, set, Ok, Err, Result, inl, inr, sym, refl, ap, ◌∙◌, arith, length-set}
use Rattle.std.proofs.lemmas.Bool.{cases_Bool}
use Rattle.device.specs.declared.log_store.LogFault.{LogFault}
use Rattle.device.specs.declared.log_store.LogFault.TheVariants.{PowerLost}
use Rattle.device.specs.Memory.{as_bytes}
use Rattle.device.specs.LogStores.{LogModel, SlotAppended, LogForced, powered_on}
use Rattle.battery.specs.Batteries.{Held, room, cuts_now, standing, forced_on, appended, cut_back}
use Rattle.battery.specs.BatteryStores.{rows, most_slots, log_model}
use Rattle.battery.specs.BatterySound.{length_rows}
use Rattle.battery.proofs.BatteryCuts.{all_stand, stand_few}
use Rattle.battery.proofs.BatteryRows.{rows_appended, rows_cut_back}

abbrev log : ℕ → List (List ℕ) → ℕ → Bool → LogModel
log capacity slots forced powered = record { capacity = capacity; slots = slots; forced = forced; powered = powered }

-- one equation from those of the parts
log_is : {c c' : ℕ} {s s' : List (List ℕ)} {f f' : ℕ} {p p' : Bool} → c ≡ c' → s ≡ s' → f ≡ f' → p ≡ p' → log c s f p ≡ log c' s' f' p'
log_is ec es ef ep = cc

pub slot_appended : (before after : Held (List ℕ) most_slots) (x : List ℕ) → as_bytes 60 x ≡ x → before.powered ≡ true
    → before.forced ≤ before.used → before.used < room before → after ≡ appended x before → SlotAppended (log_model before) x (Ok tt) (log_model after)
slot_appended before after x is on in_used fits did =
    let e = length_rows 60 before in
    let same : min (length (set before.cells before.used x)) most_slots ≡ room before = simp length-set refl in
    SlotAppended.done on (omega arith) before.forced (omega arith) (omega arith) refl (ap log_model did ∙ log_is same (rows_appended 60 before x is fits) refl on)

module _ (before after : Held (List ℕ) most_slots) (on : before.powered ≡ true) (in_room : before.used ≤ room before) (in_used : before.forced ≤ before.used)
    (did : after ≡ forced_on before) where
  -- how many of the new slots stand
  stand : ℕ
  stand = standing before.cut (before.used - before.forced)

  abbrev left : ℕ → Bool → LogModel
  left new lost = log (room before) (rows 60 before) (before.forced + new) (cond lost false before.powered)

  by_cut : (b : Bool) → cuts_now before.cut ≡ b → log_model after ≡ left stand b
  unfolding stand
  by_cut b e = ap log_model did ∙ ap (left stand) e

  powered_after : (b : Bool) → cuts_now before.cut ≡ b → after.powered ≡ cond b false true
  powered_after b e = ap (λ h. h.powered) did ∙ ap (λ b. cond b false before.powered) e ∙ ap (cond b false) on

  pub forced_or_lost : (n : ℕ) → n ≡ before.used → (r : Result (Unit {0}) LogFault) → r ≡ cond after.powered (Ok tt) (Err (PowerLost n))
      → LogForced (log_model before) r (log_model after)
  unfolding stand
  forced_or_lost n is r says =
      let l = length_rows 60 before in
      let e : length (rows 60 before) ≡ before.used = omega arith in
      let few = stand_few before.cut (before.used - before.forced) in
      let went : (b : Bool) → cuts_now before.cut ≡ b → r ≡ cond (cond b false true) (Ok tt) (Err (PowerLost n)) =
      λ b cut. says ∙ ap (λ p. cond p (Ok tt) (Err (PowerLost n))) (powered_after b cut) in
      elim (cases_Bool (cuts_now before.cut)) [
        | inl cut ↦ LogForced.lost on (before.forced + stand) (omega arith) (omega arith)
            (went true cut ∙ ap (λ k. Err (PowerLost k)) (is ∙ sym e)) (by_cut true cut)
        | inr no_cut ↦ let none_lost = all_stand before.cut (before.used - before.forced) no_cut in
            let all : before.forced + stand ≡ length (rows 60 before) = omega arith in
            LogForced.done on (went false no_cut) (by_cut false no_cut ∙ log_is refl refl all on)
      ]

pub log_cut_back : (before after : Held (List ℕ) most_slots) → before.forced ≤ before.used → after ≡ cut_back before → log_model after ≡ powered_on (log_model before)
log_cut_back before after in_used did = ap log_model did ∙ log_is refl (rows_cut_back 60 before in_used) refl refl
