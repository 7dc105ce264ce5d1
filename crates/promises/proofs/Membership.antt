-- What stands in a list. Assumes nothing.
use Rattle.std.proofs.Common.{◌≡◌, List, ◌∷◌}

pub data In {A : Type 0} (x : A) : List A → Type 0 where
  here : {y : A} {ys : List A} → x ≡ y → In x (y ∷ ys)
  there : {y : A} {ys : List A} → In x ys → In x (y ∷ ys)
