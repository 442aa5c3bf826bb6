-- How many bits the ports of a component have, how far away they stand, and in which order they come. Source: the
-- library reference of Logisim-evolution for the bits; the places and the order are this project's.
use Rattle.std.specs.Prelude.{ℕ, ℤ, pos, neg_ℤ, ◌≡◌, ◌≢◌, ◌≤◌, ◌≤ℤ◌, ◌⊎◌, List, [], ◌∷◌, All}
use Rattle.lg_kinds.specs.declared.kind.Kind.{Kind}
use Rattle.lg_kinds.specs.declared.kind.Kind.TheVariants.{PullResistor}
use Rattle.lg_kinds.specs.declared.port.Port.{Port}
use Rattle.lg_kinds.specs.declared.port.Side.TheVariants.{In, Out}

-- a port has 1 to 64 bits; at a pull resistor it has as many as there are, which 0 stands for
abbrev pub HasBits : Kind → ℕ → Type 0
HasBits kind width = ((1 ≤ width) × (width ≤ 64)) ⊎ ((kind ≡ PullResistor) × (width ≡ 0))

-- an offset is so long at most, in either direction
abbrev pub IsNear : ℕ → ℤ → Type 0
IsNear most offset = (neg_ℤ (pos most) ≤ℤ offset) × (offset ≤ℤ pos most)

-- a port has that many bits, and stands within 2,000,000 of its component in each direction
pub record IsBounded (kind : Kind) (port : Port) : Type 0 where
  pub bits : HasBits kind port.width
  pub across : IsNear 2000000 port.dx
  pub down : IsNear 2000000 port.dy

-- behind an output stands no input
abbrev pub InputsFirst : List Port → Type 0
InputsFirst [] = Unit
InputsFirst (port ∷ ports) = (port.side ≡ Out → All (λ later. later.side ≢ In) ports) × InputsFirst ports

-- each port of a component of a kind is within its bounds, and inputs come before outputs
pub record AreBounded (kind : Kind) (ports : List Port) : Type 0 where
  pub each : All (IsBounded kind) ports
  pub ordered : InputsFirst ports
