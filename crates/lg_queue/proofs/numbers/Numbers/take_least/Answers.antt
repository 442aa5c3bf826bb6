use Rattle.std.proofs.Common.{◌≢◌, [], ap, ◌∙◌, sym, subst}
use Rattle.lg_queue.specs.NumberSet.{NumberSet}
use Rattle.lg_queue.proofs.NumberLemmas.{some_number, list_taken}
use Rattle.lg_queue.proofs.numbers.Numbers.take_least.Goals as goal

pub least-number-requires-clause-some : goal.least-number-requires-clause-some
least-number-requires-clause-some c =
    some_number c.self.inside.levels.numbers.items (subst (λ (s : NumberSet). s.numbers ≢ []) (sym c.self.view_is) c.requires)

pub returns-clause-numbers : goal.returns-clause-numbers
returns-clause-numbers c =
    ap (λ (s : NumberSet). s.numbers) (sym c.self.view_is)
    ∙ list_taken c.least-number.result c.self.inside.levels.numbers.items c.remove.new.levels.numbers.items c.least-number.ensures c.remove.ensures.taken
