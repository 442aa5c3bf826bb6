-- Straight lines from one point to another, as wires are drawn.
use Rattle.std.specs.Prelude.{◌≡◌, ◌⊎◌, ℤ, ◌≤ℤ◌}
use Rattle.lg_circ.specs.declared.project.Point.{Point}
use Rattle.lg_circ.specs.declared.project.Wire.{Wire}
use Rattle.lg_nets.specs.declared.rays.Segment.{Segment}

-- from one end to the other, whichever is the lesser
abbrev pub IsBetween : ℤ → ℤ → ℤ → Type 0
IsBetween a b z = ((a ≤ℤ z) × (z ≤ℤ b)) ⊎ ((b ≤ℤ z) × (z ≤ℤ a))

-- the point lies on a level or an upright line, its ends included
abbrev pub Covers : Segment → Point → Type 0
Covers s p =
    ((s.from.y ≡ s.to.y) × (p.y ≡ s.from.y) × IsBetween s.from.x s.to.x p.x)
    ⊎ ((s.from.x ≡ s.to.x) × (p.x ≡ s.from.x) × IsBetween s.from.y s.to.y p.y)

-- the line that a wire is
abbrev pub segment_of : Wire → Segment
segment_of w = record { from = w.from; to = w.to }
