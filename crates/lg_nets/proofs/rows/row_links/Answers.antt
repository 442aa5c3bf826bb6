-- The nodes are those of the rays, in order.
use Rattle.std.proofs.Common.{◌≡◌, List, sym, ap, subst, ◌∙◌}
use Rattle.std.specs.List.Sorted.{IsPermutation}
use Rattle.std.proofs.lemmas.Result.{IfOk-weaker}
use Rattle.lg_nets.specs.declared.rows.Node.{Node}
use Rattle.lg_nets.specs.Rows.{AreRowLinks, links_of}
use Rattle.lg_nets.proofs.OrderLemmas.{InOrder-from_sorted}
use Rattle.lg_nets.proofs.NodeLemmas.{AreRowLinks-from}
use Rattle.lg_nets.proofs.rows.row_links.Goals as goal

pub returns : goal.returns
returns c =
    let rays = c.args.rays.now in
    let sorted = c.sort_unstable.new.self.items in
    let links : AreRowLinks rays (links_of sorted) =
    AreRowLinks-from rays sorted (subst (λ (ns : List Node). IsPermutation ns sorted) c.in_ok-nodes.ensures c.sort_unstable.ensures.permutation)
    (InOrder-from_sorted sorted c.sort_unstable.ensures.sorted) in
    IfOk-weaker c.links_of.result (λ made. made.items ≡ links_of c.deref.result.now) (λ made. AreRowLinks rays made.items)
    (λ made e. subst (AreRowLinks rays) (sym (e ∙ ap links_of c.deref.ensures.value)) links) c.links_of.ensures
