-- Rows: which nodes lie on level wires, and the links that say so.
use Rattle.std.specs.Prelude.{◌≡◌, ℕ, ◌+◌, Bool, ◌&&◌, ◌⊎◌, ℤ, ◌≤ℤ◌, List, [], ◌∷◌, Contains, slice_get, Some, if◌then◌else◌, int_lt, int_le}
use Rattle.std.specs.Ordering.{int_eq}
use Rattle.lg_circ.specs.declared.project.Point.{Point}
use Rattle.lg_nets.specs.declared.rays.Segment.{Segment}
use Rattle.lg_nets.specs.declared.components.Link.{Link}
use Rattle.lg_nets.specs.declared.rows.Node.{Node}
use Rattle.lg_nets.specs.Links.{Chained}

-- the point lies on the wire, which is level and leads to the right
pub record LiesAlong (w : Segment) (p : Point) : Type 0 where
  pub level : w.from.y ≡ w.to.y
  pub row : p.y ≡ w.from.y
  pub after : w.from.x ≤ℤ p.x
  pub before : p.x ≤ℤ w.to.x

-- the points are one, or one level wire has both
abbrev pub Touch : List Segment → Point → Point → Type 0
Touch rays p q = (p ≡ q) ⊎ ((w : Segment) × Contains rays w × LiesAlong w p × LiesAlong w q)

-- the first ends of two rays touch
pub record TouchAt (rays : List Segment) (i j : ℕ) : Type 0 where
  pub one : Segment
  pub other : Segment
  pub first : slice_get rays i ≡ Some one
  pub second : slice_get rays j ≡ Some other
  pub touch : Touch rays one.from other.from

-- the first ends of two rays touch where a link has them, and links chain all that touch
pub record AreRowLinks (rays : List Segment) (links : List Link) : Type 0 where
  pub sound : (link : Link) → Contains links link → TouchAt rays link.from link.to
  pub complete : (i j : ℕ) → TouchAt rays i j → Chained links i j

-- how far a ray leads to the right
abbrev pub reach_of : Segment → ℤ
reach_of w = if int_eq w.from.y w.to.y && int_lt w.from.x w.to.x then w.to.x else w.from.x

abbrev pub node_of : ℕ → Segment → Node
node_of place w = record { across = w.from.y; along = w.from.x; reach = reach_of w; place = place }

-- the nodes of rays from this place on
abbrev pub nodes_from : ℕ → List Segment → List Node
nodes_from place [] = []
nodes_from place (w ∷ ws) = node_of place w ∷ nodes_from (place + 1) ws

-- the node lies in the row of the last one, no further than what reaches from there
abbrev pub goes_on : Node → Node → Bool
goes_on last n = int_eq n.across last.across && int_le n.along last.reach

-- the node, with the reach of its row so far
abbrev pub carried : Node → Node → Node
carried last n = record n { reach = if goes_on last n && int_lt n.reach last.reach then last.reach else n.reach }

abbrev pub link : Node → Node → Link
link a b = record { from = a.place; to = b.place }

-- the links after this node, whose reach is that of its row so far
abbrev pub links_from : Node → List Node → List Link
links_from last [] = []
links_from last (n ∷ ns) = if goes_on last n then link last n ∷ links_from (carried last n) ns else links_from (carried last n) ns

-- the links of nodes in order
abbrev pub links_of : List Node → List Link
links_of [] = []
links_of (n ∷ ns) = links_from n ns
