-- The places at which power can be lost: each operation, in each way that a device allows. Assumes nothing.
use Rattle.std.specs.Prelude.{ℕ, zero, suc, ◌-◌, List, [], ◌∷◌, ◌++◌}
use Rattle.script.specs.declared.plan.Choice.{Choice}
use Rattle.script.specs.declared.plan.Choice.TheVariants as leaves
use Rattle.drill.specs.declared.place.Operation.{Operation}
use Rattle.drill.specs.declared.place.Operation.TheVariants.{Write, Append, Force}
use Rattle.drill.specs.declared.place.Spot.{Spot}
use Rattle.drill.specs.declared.place.Place.{Place}
use Rattle.drill.specs.declared.place.Places.{Places}

-- the ways are numbered from 0 to this: the old page or the new; no slot or the slot; none of the unforced slots up to all
abbrev pub last_way : Operation → ℕ
last_way (Write page) = 1
last_way (Append slot) = 1
last_way (Force last unforced) = unforced

-- what is left in each way
abbrev pub left_in : Operation → ℕ → Choice
left_in (Write page) zero = leaves.Old
left_in (Write page) (suc n) = leaves.New
left_in (Append slot) zero = leaves.Before
left_in (Append slot) (suc n) = leaves.After
left_in (Force last unforced) n = leaves.Count n

-- so many places of a spot, from this way on
abbrev pub places_from : Spot → ℕ → ℕ → List Place
places_from s way zero = []
places_from s way (suc n) = record { spot = s; left = left_in s.operation way } ∷ places_from s (suc way) n

-- every place of every spot
abbrev pub all_places : List Spot → List Place
all_places [] = []
all_places (s ∷ ss) = places_from s 0 (suc (last_way s.operation)) ++ all_places ss

-- the same, where the first spot is gone through from this way on
abbrev pub rest_from : List Spot → ℕ → List Place
rest_from [] way = []
rest_from (s ∷ ss) way = places_from s way (suc (last_way s.operation - way)) ++ all_places ss

abbrev pub rest : Places → List Place
rest p = rest_from p.spots.now p.way
