-- Directed graphs, and their nodes in order. Source: Gabow, "Path-based depth-first search for strong and biconnected
-- components", Information Processing Letters 74 (2000), for the terms.
use Rattle.std.specs.Prelude.{◌≡◌, ℕ, ◌<◌, ◌↔◌, ◌⊎◌, IsTrue, false, List, [], ◌∷◌, length, slice_index, slice_index_or, Contains}
use Rattle.std.specs.List.{All}
use Rattle.lg_graph.specs.declared.sorting.Sorted.{Sorted}

-- for each node, by its number, the nodes that its arrows lead to
abbrev pub Graph : Type 0
Graph = List (List ℕ)

-- each arrow leads to a node
abbrev pub IsGraph : Graph → Type 0
IsGraph graph = All (λ arrows. All (λ to. to < length graph) arrows) graph

-- an arrow leads from one node to another
abbrev pub HasArrow : Graph → ℕ → ℕ → Type 0
HasArrow graph from to = Contains (slice_index_or graph from []) to

-- arrows lead from one node over these nodes to another
abbrev pub IsWay : Graph → ℕ → List ℕ → ℕ → Type 0
IsWay graph from [] to = HasArrow graph from to
IsWay graph from (next ∷ more) to = HasArrow graph from next × IsWay graph next more to

-- a way of one arrow or more leads from one node to another
abbrev pub Leads : Graph → ℕ → ℕ → Type 0
Leads graph from to = (over : List ℕ) × IsWay graph from over to

-- the node stands before this place in a list
abbrev pub StandsBefore : List ℕ → ℕ → ℕ → Type 0
StandsBefore order place node = (before : ℕ) × (before < place) × (slice_index order before ≡ node)

-- the nodes in an order, and marks of those that are on cycles
pub record IsSorted (graph : Graph) (s : Sorted) : Type 0 where
  -- each node stands in the order, once, and nothing else does
  pub each : (node : ℕ) → node < length graph → StandsBefore s.order (length s.order) node
  pub nodes : (i : ℕ) → i < length s.order → slice_index s.order i < length graph
  pub once : (i j : ℕ) → i < length s.order → j < length s.order → slice_index s.order i ≡ slice_index s.order j → i ≡ j
  -- an arrow leads to a node that stands before its own, or along a cycle
  pub back : (i to : ℕ) → i < length s.order → HasArrow graph (slice_index s.order i) to
      → StandsBefore s.order i to ⊎ Leads graph to (slice_index s.order i)
  -- a node is marked where a way leads from it to itself
  pub marks : length s.cyclic ≡ length graph
  pub cyclic : (node : ℕ) → node < length graph → IsTrue (slice_index_or s.cyclic node false) ↔ Leads graph node node
