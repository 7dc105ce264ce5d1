use Rattle.std.proofs.Common.{◌≡◌, ◌≢◌, ℕ, List, length, Some, None, Option, refl, sym, ap, ◌∙◌}
use Rattle.format.specs.Changes.{Meaning, Lawful}
use Rattle.calls.proofs.service.record.change_from.Goals as goal

-- only 40 bytes form a change
not_forty : {C : Type 0} (m : Meaning C) → Lawful m → (b : List ℕ) → length b ≢ 40 → None ≡ m.reads b
not_forty {C} m law b other = go (m.reads b) refl
  where
    go : (r : Option C) → m.reads b ≡ r → None ≡ r
    go None e = refl
    go (Some c) e = absurd (other (sym (ap length (law.reads_bytes b c e)) ∙ (law.bytes_fit c).size))

pub returns-in-Err : goal.returns-in-Err
returns-in-Err g c = not_forty g.K.Change.meaning g.met.K.Change.lawful c.args.bytes.now c.in-Err.ensures.1
