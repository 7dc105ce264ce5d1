-- What a check in the code says of its question. Assumes nothing.
use Rattle.std.proofs.Common.{◌≡◌, Bool, true, false, cond, Ok, Err, Result, sym, refl}
use Rattle.rules.specs.declared.refusal.Refusal.{Refusal}
use Rattle.promises.proofs.AnyDevicesScans.{clash}

pub same_refusal : {why said : Refusal} → ◌≡◌ {A = Result (Unit {0}) Refusal} (Err why) (Err said) → why ≡ said
same_refusal e = cc

abbrev pub told : Bool → Refusal → Result (Unit {0}) Refusal
told b why = cond b (Ok tt) (Err why)

pub told_yes : (b : Bool) (why : Refusal) → Ok tt ≡ told b why → b ≡ true
told_yes true why e = refl
told_yes false why e = clash _ _ (sym e)

pub told_no : (b : Bool) (why : Refusal) {said : Refusal} → Err said ≡ told b why → b ≡ false
told_no true why e = clash _ _ e
told_no false why e = refl

pub told_why : (b : Bool) {why said : Refusal} → Err said ≡ told b why → said ≡ why
told_why true e = clash _ _ e
told_why false e = same_refusal e
