-- Where an arrow leads to what is new, to the path, or to what is done.
use Rattle.std.proofs.Common.{List, Some, refl, sym, ap, ◌∙◌, get_or, inl}
use Rattle.std.proofs.lemmas.Result.{on_ok_weaker}
use Rattle.lg_graph.specs.declared.search.Place.{Place}
use Rattle.lg_graph.specs.declared.search.Place.TheVariants.{New}
use Rattle.lg_graph.proofs.WayLemmas.{arrow_inside}
use Rattle.lg_graph.proofs.JoinLemmas.{IsSearch-joined, IsSearch-followed}
use Rattle.lg_graph.proofs.search.Search.follow.Goals as goal

pub visit-requires : goal.visit-requires
visit-requires c = record {
  within = arrow_inside c.args.graph.now _ c.args.to c.requires.graph c.requires.search.in_hand.arrow;
  is_new = ap (λ (xs : List Place). get_or xs c.args.to New) (sym c.as_slice.ensures) ∙ c.in-New.is;
  hand = Some c.args.to;
  search = c.requires.search;
  reached = inl refl;
}

pub returns-in-OnPath-clause-search : goal.returns-in-OnPath-clause-search
returns-in-OnPath-clause-search c =
    on_ok_weaker c.join.result (λ j. IsSearch-joined c.args.graph.now c.args.to c.args.self.now c.in-OnPath.place c.join.new.groups j c.requires.search
    (ap (λ (xs : List Place). get_or xs c.args.to New) (sym c.as_slice.ensures) ∙ c.in-OnPath.is)) c.join.ensures

pub returns-in-Done-clause-search : goal.returns-in-Done-clause-search
returns-in-Done-clause-search c =
    IsSearch-followed c.args.graph.now c.args.to c.args.self.now c.in-Done.field-0 c.requires.search (ap (λ (xs : List Place). get_or xs c.args.to New) (sym c.as_slice.ensures) ∙ c.in-Done.is)
