-- The rows of battery memory: what a cell that is set, an append and power on make of them.
use Rattle.std.proofs.Common.{◌≡◌, ℕ, ◌<◌, ◌≤◌, min, List, [], ◌∷◌, ◌++◌, map, length, take, set, sym, ap, ◌∙◌, arith}
use Rattle.std.proofs.lemmas.List.{map_push, take_more_set, take-map, take-take, take_min, map-set}
use Rattle.std.proofs.Math.Nat.{min_comm}
use Rattle.std.proofs.Math.Seq.{take-set-lt}
use Rattle.device.specs.Memory.{as_bytes}
use Rattle.battery.specs.Batteries.{Held, room, appended, cut_back}
use Rattle.battery.specs.BatteryStores.{rows}

pub rows_set : (n used : ℕ) (cells : List (List ℕ)) (at : ℕ) (x : List ℕ) → as_bytes n x ≡ x → at < used
    → map (as_bytes n) (take used (set cells at x)) ≡ set (map (as_bytes n) (take used cells)) at x
rows_set n used cells at x e inside =
    ap (map (as_bytes n)) (take-set-lt used cells at x inside) ∙ map-set (as_bytes n) (take used cells) at x
    ∙ ap (λ y. set (map (as_bytes n) (take used cells)) at y) e

pub rows_appended : {most : ℕ} (n : ℕ) (h : Held (List ℕ) most) (x : List ℕ) → as_bytes n x ≡ x → h.used < room h
    → rows n (appended x h) ≡ rows n h ++ x ∷ []
rows_appended n h x e fits =
    ap (map (as_bytes n)) (take_more_set h.cells h.used x (omega arith))
    ∙ map_push (as_bytes n) (take h.used h.cells) x
    ∙ ap (λ y. map (as_bytes n) (take h.used h.cells) ++ y ∷ []) e

pub rows_cut_back : {most : ℕ} (n : ℕ) (h : Held (List ℕ) most) → h.forced ≤ h.used → rows n (cut_back h) ≡ take h.forced (rows n h)
rows_cut_back n h in_used =
    ap (map (as_bytes n)) (sym (take-take h.forced h.used h.cells in_used)) ∙ sym (take-map (as_bytes n) h.forced (take h.used h.cells))

-- all that is found in the memory is in use
pub take_found : {X : Type 0} (most : ℕ) (xs : List X) → take (min (length xs) most) xs ≡ take most xs
take_found most xs = ap (λ k. take k xs) (min_comm (length xs) most) ∙ take_min most xs
