use Rattle.lg_queue.proofs.NumberLemmas.{none_listed}
use Rattle.lg_queue.proofs.numbers.Numbers.new.Goals as goal

pub returns-clause-none : goal.returns-clause-none
returns-clause-none c = none_listed _ _ c.in_ok-levels.ensures.none
