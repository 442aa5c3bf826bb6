-- A visit gives the search with a node more on the path.
use Rattle.std.proofs.Common.{◌≡◌, ◌<◌, ◌++◌, ℕ, List, [], ◌∷◌, false, None, refl, sym, subst, ap, ◌∙◌, set}
use Rattle.std.proofs.lemmas.List.{get_or_read}
use Rattle.std.proofs.lemmas.Result.{on_ok_weaker}
use Rattle.lg_graph.specs.declared.search.Place.TheVariants.{OnPath}
use Rattle.lg_graph.specs.declared.search.Search.{Search}
use Rattle.lg_graph.specs.Search.{IsSearch, work}
use Rattle.lg_graph.proofs.VisitLemmas.{visited, is_visited, IsSearch-visited, less_work}
use Rattle.lg_graph.proofs.search.Search.visit.Goals as goal

-- the search after the visit
visit_gives : (c : goal.After-put_all) → (t : Search) → t.places ≡ c.set.new.self → t.path ≡ c.push-2.new.self → t.groups ≡ c.push.new.self → t.order ≡ c.args.self.now.order
    → t.cyclic ≡ c.args.self.now.cyclic → t.arrows ≡ c.args.self.now.arrows ++ c.as_slice.result.now → t ≡ visited c.args.graph.now c.args.node c.args.self.now
visit_gives c t places path groups order cyclic arrows =
    is_visited c.args.graph.now c.args.node c.args.self.now t
    (places ∙ (c.set.ensures ∙ ap (λ (k : ℕ). set c.args.self.now.places c.args.node (OnPath k)) c.len-3.ensures)) (path ∙ c.in_ok-push-2.ensures.ok) (groups ∙ (c.in_ok-push.ensures.ok ∙ same_group c.len.ensures c.len-2.ensures))
    (arrows ∙ ap (λ (xs : List ℕ). c.args.self.now.arrows ++ xs) (c.as_slice.ensures ∙ get_or_read c.args.graph.now c.args.node c.index-graph-node.result c.requires.within c.index-graph-node.is []))
    order cyclic
  where
    same_group : {a b d e : ℕ} → a ≡ b → d ≡ e
        → c.args.self.now.groups ++ record { first = a; arrows = d; looped = false } ∷ [] ≡ c.args.self.now.groups ++ record { first = b; arrows = e; looped = false } ∷ []
    same_group {a} {b} {d} {e} p q =
        ap (λ (k : ℕ). c.args.self.now.groups ++ record { first = k; arrows = d; looped = false } ∷ []) p
        ∙ ap (λ (k : ℕ). c.args.self.now.groups ++ record { first = b; arrows = k; looped = false } ∷ []) q

pub returns-clause-search : goal.returns-clause-search
returns-clause-search c =
    on_ok_weaker c.put_all.result (λ e. subst (IsSearch c.args.graph.now None) (sym (visit_gives c _ refl refl refl refl refl e)) (IsSearch-visited c.args.graph.now c.args.node c.args.self.now c.requires))
    c.put_all.ensures

pub returns-clause-less : goal.returns-clause-less
returns-clause-less c =
    on_ok_weaker c.put_all.result (λ e. subst (λ (t : Search). work c.args.graph.now t < work c.args.graph.now c.args.self.now) (sym (visit_gives c _ refl refl refl refl refl e))
    (less_work c.args.graph.now c.args.node c.args.self.now c.requires)) c.put_all.ensures
