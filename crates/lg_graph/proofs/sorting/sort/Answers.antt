-- At the start nothing was met, each turn does one more node, and at the end all are done.
use Rattle.std.proofs.Common.{◌≡◌, arith, below_more}
use Rattle.lg_graph.specs.declared.search.Place.TheVariants.{New}
use Rattle.lg_graph.specs.Search.{place_of}
use Rattle.lg_graph.proofs.SortedLemmas.{IsSearch-new, IsSorted-from}
use Rattle.lg_graph.proofs.sorting.sort.Goals as goal

pub loop-node-init : goal.loop-node-init
loop-node-init c = record {
  searching = IsSearch-new c.args.graph.now c.in_ok-search.search c.in_ok-search.ensures;
  ended = c.in_ok-search.ensures.path;
  met = λ n h. absurd (omega arith);
}

pub loop-node-preserved : goal.loop-node-preserved
loop-node-preserved c =
    let before = c.loop-node.invariant in
    record {
      searching = c.in_ok-run.ensures.search;
      ended = c.in_ok-run.ensures.ended;
      met = below_more (λ n. place_of c.run.new.self n ≡ New → ⊥) c.loop-node.node (λ n h e. before.met n h (c.in_ok-run.ensures.keeps n e)) c.in_ok-run.ensures.met;
    }

pub returns : goal.returns
returns c =
    let before = c.loop-node.invariant in
    let all = c.loop-node-test.false in
    IsSorted-from c.args.graph.now c.loop-node.search c.into_sorted.result before.searching before.ended (λ n h. before.met n (omega arith)) c.into_sorted.ensures.order c.into_sorted.ensures.cyclic
