-- The limits of a table whose places are reserved when it is made. Assumes nothing.
use Rattle.std.specs.Prelude.{◌≡◌, ℕ, ◌<◌, ◌≤◌, false, [], ◌∷◌, is_some, Vec, vec_len, vec_capacity}
use Rattle.rules.specs.Tables.{Dirty, find_page}

-- at most n entries, and room for n
pub record HasPlaces (n : ℕ) {X Z : Type 0} (list : Vec X Z) : Type 0 where
  pub few : vec_len list ≤ n
  pub room : n ≤ vec_capacity list

-- pages below 64, none of them twice
abbrev pub PagesOnce : Dirty → Type 0
PagesOnce [] = Unit {0}
PagesOnce (x ∷ xs) = (x.page < 64) × (is_some (find_page x.page xs) ≡ false) × PagesOnce xs
