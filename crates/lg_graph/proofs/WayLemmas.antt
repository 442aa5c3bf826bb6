-- Ways: joined, and what they carry along.
use Rattle.std.proofs.Common.{◌≡◌, ℕ, ◌<◌, ◌≤◌, ◌⊎◌, List, [], ◌∷◌, length, get_or, refl, sym, subst, ap, arith, inl, inr}
use Rattle.std.proofs.lemmas.Bool.{cases_lt}
use Rattle.std.proofs.lemmas.List.{get_or_past}
use Rattle.std.proofs.lemmas.List.Elements.{All-contains}
use Rattle.lg_graph.specs.Graph.{Graph, IsGraph, HasArrow, IsWay, Leads}
use Rattle.lg_graph.specs.Search.{Reaches}

pub Leads-arrow : (graph : Graph) (from to : ℕ) → HasArrow graph from to → Leads graph from to
Leads-arrow graph from to h = ([], h)

pub Leads-step : (graph : Graph) (from by to : ℕ) → HasArrow graph from by → Leads graph by to → Leads graph from to
Leads-step graph from by to h l = (by ∷ l.0, (h, l.1))

pub Leads-trans : (graph : Graph) (from by to : ℕ) → Leads graph from by → Leads graph by to → Leads graph from to
Leads-trans graph from by to first second = go from first.0 first.1
  where
    go : (at : ℕ) (over : List ℕ) → IsWay graph at over by → Leads graph at to
    go at [] h = Leads-step graph at by to h second
    go at (next ∷ more) h = Leads-step graph at next to h.0 (go next more h.1)

pub Reaches-refl : (graph : Graph) (node : ℕ) → Reaches graph node node
Reaches-refl graph node = inl refl

pub Reaches-trans : (graph : Graph) (from by to : ℕ) → Reaches graph from by → Reaches graph by to → Reaches graph from to
Reaches-trans graph from by to (inl e) second = subst (λ (n : ℕ). Reaches graph n to) (sym e) second
Reaches-trans graph from by to (inr first) (inl e) = subst (λ (n : ℕ). Reaches graph from n) e (inr first)
Reaches-trans graph from by to (inr first) (inr second) = inr (Leads-trans graph from by to first second)

-- what is reached leads on
pub Leads-reached : (graph : Graph) (from by to : ℕ) → Reaches graph from by → Leads graph by to → Leads graph from to
Leads-reached graph from by to (inl e) second = subst (λ (n : ℕ). Leads graph n to) (sym e) second
Leads-reached graph from by to (inr first) second = Leads-trans graph from by to first second

pub Leads-on : (graph : Graph) (from by to : ℕ) → Leads graph from by → Reaches graph by to → Leads graph from to
Leads-on graph from by to first (inl e) = subst (λ (n : ℕ). Leads graph from n) e first
Leads-on graph from by to first (inr second) = Leads-trans graph from by to first second

-- an arrow between two that are reached
pub Leads-over : (graph : Graph) (from tail head to : ℕ) → Reaches graph from tail → HasArrow graph tail head → Reaches graph head to → Leads graph from to
Leads-over graph from tail head to before h after =
    Leads-reached graph from tail to before (Leads-on graph tail head to (Leads-arrow graph tail head h) after)

-- what holds at a node and goes along each arrow holds at what the node leads to
pub Leads-keeps : (graph : Graph) (P : ℕ → Type 0) → ((from to : ℕ) → P from → HasArrow graph from to → P to) → (from to : ℕ) → Leads graph from to → P from → P to
Leads-keeps graph P along from to l p = go from l.0 l.1 p
  where
    go : (at : ℕ) (over : List ℕ) → IsWay graph at over to → P at → P to
    go at [] h q = along at to q h
    go at (next ∷ more) h q = go next more h.1 (along at next q h.0)

-- an arrow leads to a node of the graph
pub arrow_inside : (graph : Graph) (from to : ℕ) → IsGraph graph → HasArrow graph from to → to < length graph
arrow_inside graph from to g h = by_case (cases_lt from (length graph))
  where
    by_case : (from < length graph) ⊎ (length graph ≤ from) → to < length graph
    by_case (inl less) = All-contains (λ (t : ℕ). t < length graph) (get_or graph from []) to (g from [] less) h
    by_case (inr past) = let none : length (get_or graph from []) ≡ 0 = ap length (get_or_past graph from [] past) in let inside = h.1 in absurd (omega arith)
