-- Lists in order, without a value twice. Source: ISO 80000-2, strict total order.
use Rattle.std.specs.Prelude.{◌≡◌, Bool, true, false, ◌⊎◌, List, [], ◌∷◌, if◌then◌else◌}

-- a value stands in a list
abbrev pub StandsIn : {X : Type 0} → X → List X → Type 0
StandsIn x [] = ⊥
StandsIn x (y ∷ ys) = (x ≡ y) ⊎ StandsIn x ys

-- each value of a list stands before all later ones
abbrev pub IsRising : {X : Type 0} → (X → X → Bool) → List X → Type 0
IsRising before [] = Unit {0}
IsRising {X} before (x ∷ xs) = ((y : X) → StandsIn y xs → before x y ≡ true) × IsRising before xs

-- a rising list and a value in its place; the list itself where the value is there
abbrev pub with_value : {X : Type 0} → (X → X → Bool) → X → List X → List X
with_value before x [] = x ∷ []
with_value before x (y ∷ ys) =
    if before x y then x ∷ y ∷ ys
    else (if before y x then y ∷ with_value before x ys else y ∷ ys)

-- of two values one stands before the other, or they are one
pub record IsOrder {X : Type 0} (before : X → X → Bool) : Type 0 where
  pub irreflexive : (x : X) → before x x ≡ false
  pub transitive : (x y z : X) → before x y ≡ true → before y z ≡ true → before x z ≡ true
  pub total : (x y : X) → before x y ≡ false → before y x ≡ false → x ≡ y
