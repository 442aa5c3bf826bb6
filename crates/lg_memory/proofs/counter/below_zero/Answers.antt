use Rattle.std.proofs.Common.{◌∙◌, sym}
use Rattle.lg_memory.proofs.NumberLemmas.{word_of_number_last}
use Rattle.lg_memory.proofs.counter.below_zero.Goals as goal

pub returns-in-Continue-clause-word : goal.returns-in-Continue-clause-word
returns-in-Continue-clause-word c =
    rw c.in-Continue.is (c.fill.ensures.bits ∙ sym (word_of_number_last c.args.width))
