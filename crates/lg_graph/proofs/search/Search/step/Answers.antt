-- A group without open arrows is closed; else its last arrow is followed.
use Rattle.std.proofs.Common.{arith}
use Rattle.std.proofs.lemmas.Result.{on_ok_weaker}
use Rattle.lg_graph.proofs.StepLemmas.{closable, IsSearch-taken}
use Rattle.lg_graph.proofs.CloseLemmas.{IsSearch-closed, less_work, met_kept}
use Rattle.lg_graph.proofs.search.Search.step.Goals as goal

pub close-requires : goal.close-requires
close-requires c = closable c.args.graph.now c.args.self.now c.last_of.ensures.0 c.last_of.result c.requires.search c.last_of.ensures.1 (omega arith)

pub returns-then-len-last_of-clause-search : goal.returns-then-len-last_of-clause-search
returns-then-len-last_of-clause-search c =
    on_ok_weaker c.close.result (λ closed. IsSearch-closed c.args.graph.now c.args.self.now c.close.new.self c.requires.search
    (closable c.args.graph.now c.args.self.now c.last_of.ensures.0 c.last_of.result c.requires.search c.last_of.ensures.1 (omega arith)) closed) c.close.ensures

pub returns-then-len-last_of-clause-less : goal.returns-then-len-last_of-clause-less
returns-then-len-last_of-clause-less c = on_ok_weaker c.close.result (λ closed. less_work c.args.graph.now c.args.self.now c.close.new.self closed) c.close.ensures

pub returns-then-len-last_of-clause-keeps : goal.returns-then-len-last_of-clause-keeps
returns-then-len-last_of-clause-keeps c =
    on_ok_weaker c.close.result (λ closed. met_kept c.args.graph.now c.args.self.now c.close.new.self c.requires.search.path closed) c.close.ensures

pub follow-requires-clause-search : goal.follow-requires-clause-search
follow-requires-clause-search c =
    IsSearch-taken c.args.graph.now c.args.self.now c.pop.new.self c.in-Some.to c.last_of.ensures.0 c.last_of.result c.requires.search c.in-Some.ensures c.last_of.ensures.1 (omega arith)
