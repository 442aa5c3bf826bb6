use Rattle.std.proofs.Common.{length, arith, sym, subst, ap, ◌∙◌}
use Rattle.std.proofs.lemmas.List.{length-replicate}
use Rattle.lg_queue.specs.Row.{HasNone}
use Rattle.lg_queue.proofs.LevelLemmas.{none_in_replicate, summary_of_zeros}
use Rattle.lg_queue.proofs.levels.empty.Goals as goal

pub returns-clause-levels : goal.returns-clause-levels
returns-clause-levels c =
    let numbers = c.in_ok-vec.ensures.items_if_clones_equal (λ y e. e) in
    let words = c.in_ok-vec-2.ensures.items_if_clones_equal (λ y e. e) in
    let blocks = c.in_ok-vec-3.ensures.items_if_clones_equal (λ y e. e) in
    let none_1 : HasNone c.in_ok-vec.field-0.items = subst HasNone (sym numbers) (none_in_replicate _) in
    let none_2 : HasNone c.in_ok-vec-2.field-0.items = subst HasNone (sym words) (none_in_replicate _) in
    let none_3 : HasNone c.in_ok-vec-3.field-0.items = subst HasNone (sym blocks) (none_in_replicate _) in
    let long_1 = ap length numbers ∙ length-replicate _ 0 in
    let long_2 = ap length words ∙ length-replicate _ 0 in
    let long_3 = ap length blocks ∙ length-replicate _ 0 in
    record {
      words = summary_of_zeros _ _ none_1 none_2 (omega (arith, long_1, long_2));
      blocks = summary_of_zeros _ _ none_2 none_3 (omega (arith, long_2, long_3));
      top = summary_of_zeros _ _ none_3 (none_in_replicate 1) (omega (arith, c.requires, long_3));
    }

pub returns-clause-none : goal.returns-clause-none
returns-clause-none c = subst HasNone (sym (c.in_ok-vec.ensures.items_if_clones_equal (λ y e. e))) (none_in_replicate _)
