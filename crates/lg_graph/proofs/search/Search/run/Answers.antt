-- The node is met, by a visit or before.
use Rattle.std.proofs.Common.{◌≡◌, List, None, sym, subst, ap, ◌∙◌, get_or}
use Rattle.lg_graph.specs.declared.search.Place.{Place}
use Rattle.lg_graph.specs.declared.search.Place.TheVariants.{New}
use Rattle.lg_graph.specs.declared.search.Search.{Search}
use Rattle.lg_graph.specs.Search.{IsSearch, place_of, KeepsMet}
use Rattle.lg_graph.proofs.search.Search.run.Goals as goal
use Rattle.lg_graph.proofs.search.Search.run.Goals.{in-New+in_ok-visit, in_default}

pub loop-self-init : goal.loop-self-init
loop-self-init c = elim c.match-as_slice-node.branch [
  | in-New+in_ok-visit w ↦ record {
    searching = subst (IsSearch c.args.graph.now None) (sym w.self-is) w.in_ok-visit.ensures.search;
    met = subst (λ (s : Search). place_of s c.args.node ≡ New → ⊥) (sym w.self-is) w.in_ok-visit.ensures.met;
    keeps = subst (KeepsMet c.args.self.now) (sym w.self-is) w.in_ok-visit.ensures.keeps;
  }
  | in_default w ↦ record {
    searching = subst (IsSearch c.args.graph.now None) (sym w.self-is) c.requires.search;
    met = subst (λ (s : Search). place_of s c.args.node ≡ New → ⊥) (sym w.self-is)
        (λ e. w.in_default.not-New (ap (λ (xs : List Place). get_or xs c.args.node New) c.as_slice.ensures ∙ e));
    keeps = subst (KeepsMet c.args.self.now) (sym w.self-is) (λ node e. e);
  }
]
