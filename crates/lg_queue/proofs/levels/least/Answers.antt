use Rattle.std.proofs.Common.{subst, arith}
use Rattle.lg_queue.specs.Row.{IsLeast, IsLeastIn}
use Rattle.lg_queue.proofs.LevelLemmas.{least_below, least_of_one, top_some}
use Rattle.lg_queue.proofs.levels.least.Goals as goal

pub least_in-block-requires-clause-some : goal.least_in-block-requires-clause-some
least_in-block-requires-clause-some c = top_some c.args.levels.now c.requires.levels (omega arith) c.requires.some.0 c.requires.some.1

pub returns : goal.returns
returns c =
    let s = c.args.levels.now in
    let levels = c.requires.levels in
    let block : IsLeast s.top c.least_in-block.result = least_of_one s.top c.least_in-block.result (omega arith) c.least_in-block.ensures in
    let word : IsLeast s.blocks.items c.least_in-word.result = least_below s.blocks.items s.top levels.top c.least_in-block.result c.least_in-word.result block (subst (λ xs. IsLeastIn xs c.least_in-block.result c.least_in-word.result) c.deref.ensures.value c.least_in-word.ensures) in
    let place : IsLeast s.words.items c.least_in-place.result = least_below s.words.items s.blocks.items levels.blocks c.least_in-word.result c.least_in-place.result word (subst (λ xs. IsLeastIn xs c.least_in-word.result c.least_in-place.result) c.deref-2.ensures.value c.least_in-place.ensures) in
    least_below s.numbers.items s.words.items levels.words c.least_in-place.result c.least_in.result place (subst (λ xs. IsLeastIn xs c.least_in-place.result c.least_in.result) c.deref-3.ensures.value c.least_in.ensures)
