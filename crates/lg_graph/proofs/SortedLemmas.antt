-- The search begins with nothing met, and where all nodes are done they are sorted.
use Rattle.std.proofs.Common.{◌≡◌, ℕ, ◌<◌, ◌≤◌, Bool, List, [], length, get_or, refl, sym, subst, ap, ◌∙◌, arith, ◌⊎◌, inl, inr, None}
use Rattle.std.specs.Prelude.{All}
use Rattle.std.proofs.lemmas.Bool.{cases_lt}
use Rattle.std.proofs.lemmas.List.{get_or_past}
use Rattle.std.proofs.lemmas.List.Elements.{All-nil}
use Rattle.lg_graph.specs.declared.groups.Group.{Group}
use Rattle.lg_graph.specs.declared.search.Place.{Place}
use Rattle.lg_graph.specs.declared.search.Place.TheVariants.{New, OnPath, Done}
use Rattle.lg_graph.specs.declared.search.Search.{Search}
use Rattle.lg_graph.specs.declared.sorting.Sorted.{Sorted}
use Rattle.lg_graph.specs.Graph.{Graph, Leads, StandsBefore, IsSorted}
use Rattle.lg_graph.specs.Search.{AreRising, place_of, IsSearch, IsNew}

pub IsSearch-new : (graph : Graph) (s : Search) → IsNew (length graph) s → IsSearch graph None s
IsSearch-new graph s n =
    let path : length s.path ≡ 0 = ap length n.path in
    let arrows : length s.arrows ≡ 0 = ap length n.arrows in
    let order : length s.order ≡ 0 = ap length n.order in
    record {
      places = n.places;
      marks = n.marks;
      done = record {
        in_order = λ i h. absurd (omega arith);
        order_of = λ node i e. absurd (not_done node i e);
        back = λ node i to e arrow. absurd (not_done node i e);
        told = λ node i e. absurd (not_done node i e);
      };
      path = record {
        on_path = λ a h. absurd (omega arith);
        path_of = λ node a e. absurd (not_on node a e);
        begun = λ h. absurd (omega arith);
        rising = subst (λ (gs : List Group). AreRising gs) (sym n.groups) tt;
        within = subst (λ (gs : List Group). All (λ (g : Group). (g.first < length s.path) × (g.arrows ≤ length s.arrows)) gs) (sym n.groups)
            (All-nil (λ (g : Group). (g.first < length s.path) × (g.arrows ≤ length s.arrows)));
        reaches = λ a b h g le. absurd (omega arith);
        loops = λ a h e. absurd (omega arith);
        alone = λ a h e. absurd (omega arith);
      };
      known = λ a to h arrow. absurd (omega arith);
      sources = λ k to h e. absurd (omega arith);
      in_hand = tt;
    }
  where
    not_done : (node i : ℕ) → place_of s node ≡ Done i → ⊥
    not_done node i e = let both : New ≡ Done i = sym (n.new node) ∙ e in cc

    not_on : (node a : ℕ) → place_of s node ≡ OnPath a → ⊥
    not_on node a e = let both : New ≡ OnPath a = sym (n.new node) ∙ e in cc

-- where each was met and none is on the path, each is done
is_done : (graph : Graph) (s : Search) → IsSearch graph None s → s.path ≡ [] → (node : ℕ) → (place_of s node ≡ New → ⊥) → (i : ℕ) × (place_of s node ≡ Done i)
is_done graph s now ended node met = go (place_of s node) refl
  where
    go : (p : Place) → place_of s node ≡ p → (i : ℕ) × (place_of s node ≡ Done i)
    go New e = absurd (met e)
    go (OnPath a) e = let inside = (now.path.path_of node a e).0 in let none : length s.path ≡ 0 = ap length ended in absurd (omega arith)
    go (Done i) e = (i, e)

inside : (s : Search) (node i : ℕ) → place_of s node ≡ Done i → node < length s.places
inside s node i e = by_case (cases_lt node (length s.places))
  where
    by_case : (node < length s.places) ⊎ (length s.places ≤ node) → node < length s.places
    by_case (inl less) = less
    by_case (inr past) = let both : New ≡ Done i = sym (get_or_past s.places node New past) ∙ e in absurd (cc)

pub IsSorted-from : (graph : Graph) (s : Search) (sorted : Sorted) → IsSearch graph None s → s.path ≡ [] → ((node : ℕ) → node < length graph → place_of s node ≡ New → ⊥)
    → sorted.order ≡ s.order → sorted.cyclic ≡ s.cyclic → IsSorted graph sorted
IsSorted-from graph s sorted now ended met order cyclic =
    let from : IsSorted graph (record { order = s.order; cyclic = s.cyclic }) = record {
      each = λ node h. let d = is_done graph s now ended node (met node h) in let at = now.done.order_of node d.0 d.1 in (d.0, at.0, at.1);
      nodes = λ i h. let e = now.done.in_order i h in let places = now.places in let less = inside s (get_or s.order i 0) i e in omega arith;
      once = λ i j hi hj e. once i j hi hj e;
      back = λ i to h arrow. back i to h (now.done.back (get_or s.order i 0) i to (now.done.in_order i h) arrow);
      marks = now.marks;
      cyclic = λ node h. let d = is_done graph s now ended node (met node h) in now.done.told node d.0 d.1;
    } in
    made sorted.order sorted.cyclic order cyclic from
  where
    once : (i j : ℕ) → i < length s.order → j < length s.order → get_or s.order i 0 ≡ get_or s.order j 0 → i ≡ j
    once i j hi hj e = let both : Done i ≡ Done j = sym (now.done.in_order i hi) ∙ (ap (place_of s) e ∙ now.done.in_order j hj) in cc

    back : (i to : ℕ) → i < length s.order → (j : ℕ) × (place_of s to ≡ Done j) × ((j < i) ⊎ Leads graph to (get_or s.order i 0))
        → StandsBefore s.order i to ⊎ Leads graph to (get_or s.order i 0)
    back i to h d = by_case d.2
      where
        by_case : (d.0 < i) ⊎ Leads graph to (get_or s.order i 0) → StandsBefore s.order i to ⊎ Leads graph to (get_or s.order i 0)
        by_case (inl less) = inl (d.0, less, (now.done.order_of to d.0 d.1).1)
        by_case (inr l) = inr l

    made : (order : List ℕ) (cyclic : List Bool) → order ≡ s.order → cyclic ≡ s.cyclic → IsSorted graph (record { order = s.order; cyclic = s.cyclic })
        → IsSorted graph (record { order = order; cyclic = cyclic })
    made order cyclic e f h =
        subst (λ (xs : List ℕ). IsSorted graph (record { order = xs; cyclic = cyclic })) (sym e)
        (subst (λ (bs : List Bool). IsSorted graph (record { order = s.order; cyclic = bs })) (sym f) h)
