use Rattle.std.proofs.Common.{◌≡◌, ℕ, ◌≤◌, Bool, List, [], replicate, arith}
use Rattle.std.proofs.lemmas.Grind.{common_steps}
use Rattle.std.proofs.lemmas.List.{get_or-replicate, length-replicate}
use Rattle.format.specs.Bytes.{Bytes}
use Rattle.format.proofs.Rows.{small_zeros}
use Rattle.device.specs.PageStores.{SoundPages}
use Rattle.scripted_pages.proofs.ScriptedPages.new.Goals as goal

alike_sound : (n : ℕ) (page : List ℕ) (pages : List (List ℕ)) (powered : Bool) → Bytes 256 page → pages ≡ replicate n page → n ≤ 65536
    → SoundPages (record { pages = pages; powered = powered })
alike_sound n page pages powered row e few = rw e (record {
  few = omega (arith, length-replicate n page);
  each = λ p h. rw (get_or-replicate n p page [] (omega (arith, length-replicate n page))) row;
})

pub invariant_of-result : goal.invariant_of-result
invariant_of-result c =
    let row : Bytes 256 (replicate 256 0) = record { size = length-replicate {A = ℕ} 256 0; small = small_zeros 256 } in
    record { sound = alike_sound c.min.result _ _ _ row (grind (arith, common_steps)) (omega (arith, c.min.ensures)) }
