-- Whether a way leads from one node of a graph to another, told without a search: node by node as a place to go through
-- (Warshall, "A theorem on Boolean matrices").
use Rattle.std.proofs.Common.{◌≡◌, ℕ, zero, suc, ◌<◌, ◌≤◌, List, [], ◌∷◌, ◌++◌, length, get_or, refl, sym, subst, ap, ◌∙◌, arith, ◌⊎◌, inl, inr}
use Rattle.std.specs.Prelude.{All, Contains}
use Rattle.std.proofs.lemmas.Bool.{cases_eq, cases_lt}
use Rattle.std.proofs.lemmas.List.Elements.{All-nil, All-cons, All-head, All-tail, All-append, All-weaker, Contains-append_right}
use Rattle.lg_graph.specs.Graph.{HasArrow, IsWay, Leads}

pub nothing : {A : Type 0} {x : A} → Contains [] x → ⊥
nothing h = let inside = h.1 in absurd (omega arith)

pub Contains-cons_cases : {A : Type 0} (x : A) (xs : List A) (y : A) → Contains (x ∷ xs) y → (x ≡ y) ⊎ Contains xs y
Contains-cons_cases x xs y (zero, inside, e) = inl e
Contains-cons_cases x xs y (suc k, inside, e) = inr (k, omega arith, e)

contains_or_not : (xs : List ℕ) (y : ℕ) → Contains xs y ⊎ (Contains xs y → ⊥)
contains_or_not [] y = inr nothing
contains_or_not (x ∷ xs) y = go (cases_eq x y) (contains_or_not xs y)
  where
    go : (x ≡ y) ⊎ (x ≡ y → ⊥) → Contains xs y ⊎ (Contains xs y → ⊥) → Contains (x ∷ xs) y ⊎ (Contains (x ∷ xs) y → ⊥)
    go (inl e) later = inl (0, omega arith, e)
    go (inr ne) (inl h) = inl (Contains-append_right (x ∷ []) xs y h)
    go (inr ne) (inr none) = inr (λ h. neither (Contains-cons_cases x xs y h))
      where
        neither : (x ≡ y) ⊎ Contains xs y → ⊥
        neither (inl e) = ne e
        neither (inr h) = none h

-- a way through nodes below a number alone
abbrev LeadsThrough : List (List ℕ) → ℕ → ℕ → ℕ → Type 0
LeadsThrough graph k from to = (over : List ℕ) × IsWay graph from over to × All (λ (x : ℕ). x < k) over

joined : (graph : List (List ℕ)) (first second : List ℕ) (from by to : ℕ) → IsWay graph from first by → IsWay graph by second to → IsWay graph from (first ++ by ∷ second) to
joined graph [] second from by to h l = (h, l)
joined graph (x ∷ first) second from by to h l = (h.0, joined graph first second x by to h.1 l)

raised : (k : ℕ) (over : List ℕ) → All (λ (x : ℕ). x < k) over → All (λ (x : ℕ). x < suc k) over
raised k over low = All-weaker (λ (x : ℕ). x < k) (λ (x : ℕ). x < suc k) (λ x less. omega arith) over low

one_more : (graph : List (List ℕ)) (k from to : ℕ) → LeadsThrough graph k from to → LeadsThrough graph (suc k) from to
one_more graph k from to (over, way, low) = (over, way, raised k over low)

-- a way through nodes up to a number goes through it, or not
parted : (graph : List (List ℕ)) (k : ℕ) (over : List ℕ) (from to : ℕ) → IsWay graph from over to → All (λ (x : ℕ). x < suc k) over
    → LeadsThrough graph k from to ⊎ (LeadsThrough graph k from k × LeadsThrough graph k k to)
parted graph k [] from to way low = inl ([], way, All-nil (λ (x : ℕ). x < k))
parted graph k (x ∷ over) from to way low =
    go (cases_eq x k) (parted graph k over x to way.1 (All-tail (λ (x : ℕ). x < suc k) x over low))
  where
    less : x < suc k
    less = All-head (λ (x : ℕ). x < suc k) x over low

    below : (x ≡ k → ⊥) → x < k
    below ne = by (cases_lt x k)
      where
        by : (x < k) ⊎ (k ≤ x) → x < k
        by (inl h) = h
        by (inr h) = let l = less in absurd (ne (omega arith))

    before : (to : ℕ) → x < k → LeadsThrough graph k x to → LeadsThrough graph k from to
    before to below (rest, along, low) = (x ∷ rest, (way.0, along), All-cons (λ (x : ℕ). x < k) x rest below low)

    go : (x ≡ k) ⊎ (x ≡ k → ⊥) → LeadsThrough graph k x to ⊎ (LeadsThrough graph k x k × LeadsThrough graph k k to)
        → LeadsThrough graph k from to ⊎ (LeadsThrough graph k from k × LeadsThrough graph k k to)
    go (inl e) (inl h) = inr (([], subst (λ (y : ℕ). HasArrow graph from y) e way.0, All-nil (λ (x : ℕ). x < k)), subst (λ (y : ℕ). LeadsThrough graph k y to) e h)
    go (inl e) (inr h) = inr (([], subst (λ (y : ℕ). HasArrow graph from y) e way.0, All-nil (λ (x : ℕ). x < k)), h.1)
    go (inr ne) (inl h) = inl (before to (below ne) h)
    go (inr ne) (inr h) = inr (before k (below ne) h.0, h.1)

through_or_not : (graph : List (List ℕ)) (k from to : ℕ) → LeadsThrough graph k from to ⊎ (LeadsThrough graph k from to → ⊥)
through_or_not graph zero from to = go (contains_or_not (get_or graph from []) to)
  where
    go : HasArrow graph from to ⊎ (HasArrow graph from to → ⊥) → LeadsThrough graph zero from to ⊎ (LeadsThrough graph zero from to → ⊥)
    go (inl h) = inl ([], h, All-nil (λ (x : ℕ). x < 0))
    go (inr none) = inr (λ h. no h.0 h.1 h.2)
      where
        no : (over : List ℕ) → IsWay graph from over to → All (λ (x : ℕ). x < 0) over → ⊥
        no [] way low = none way
        no (x ∷ over) way low = let less = All-head (λ (x : ℕ). x < 0) x over low in absurd (omega arith)
through_or_not graph (suc k) from to = go (through_or_not graph k from to) (through_or_not graph k from k) (through_or_not graph k k to)
  where
    go : LeadsThrough graph k from to ⊎ (LeadsThrough graph k from to → ⊥) → LeadsThrough graph k from k ⊎ (LeadsThrough graph k from k → ⊥)
        → LeadsThrough graph k k to ⊎ (LeadsThrough graph k k to → ⊥) → LeadsThrough graph (suc k) from to ⊎ (LeadsThrough graph (suc k) from to → ⊥)
    go (inl h) first second = inl (one_more graph k from to h)
    go (inr none) (inl first) (inl second) =
        inl (
          first.0 ++ k ∷ second.0,
          joined graph first.0 second.0 from k to first.1 second.1,
          All-append (λ (x : ℕ). x < suc k) first.0 (k ∷ second.0) (raised k first.0 first.2)
              (All-cons (λ (x : ℕ). x < suc k) k second.0 (omega arith) (raised k second.0 second.2)),
        )
    go (inr none) (inl first) (inr not_second) = inr (λ h. neither (parted graph k h.0 from to h.1 h.2))
      where
        neither : LeadsThrough graph k from to ⊎ (LeadsThrough graph k from k × LeadsThrough graph k k to) → ⊥
        neither (inl h) = none h
        neither (inr h) = not_second h.1
    go (inr none) (inr not_first) second = inr (λ h. neither (parted graph k h.0 from to h.1 h.2))
      where
        neither : LeadsThrough graph k from to ⊎ (LeadsThrough graph k from k × LeadsThrough graph k k to) → ⊥
        neither (inl h) = none h
        neither (inr h) = not_first h.0

-- all nodes between are nodes of the graph
all_below : (graph : List (List ℕ)) → ((from to : ℕ) → HasArrow graph from to → to < length graph) → (over : List ℕ) (from to : ℕ) → IsWay graph from over to
    → All (λ (x : ℕ). x < length graph) over
all_below graph inside [] from to way = All-nil (λ (x : ℕ). x < length graph)
all_below graph inside (x ∷ over) from to way = All-cons (λ (x : ℕ). x < length graph) x over (inside from x way.0) (all_below graph inside over x to way.1)

-- a way leads from one node to another, or none does
pub leads_or_not : (graph : List (List ℕ)) → ((from to : ℕ) → HasArrow graph from to → to < length graph) → (from to : ℕ) → Leads graph from to ⊎ (Leads graph from to → ⊥)
leads_or_not graph inside from to = go (through_or_not graph (length graph) from to)
  where
    go : LeadsThrough graph (length graph) from to ⊎ (LeadsThrough graph (length graph) from to → ⊥) → Leads graph from to ⊎ (Leads graph from to → ⊥)
    go (inl h) = inl (h.0, h.1)
    go (inr none) = inr (λ l. none (l.0, l.1, all_below graph inside l.0 from to l.1))
