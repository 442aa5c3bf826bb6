use Rattle.lg_value.specs.Storage.{length-word_of_planes}
use Rattle.lg_value.proofs.StorageLemmas.{stored_fill}
use Rattle.lg_value.proofs.word.Word.fill.Goals as goal

pub invariant_of-result : goal.invariant_of-result
invariant_of-result c =
    rw (c.low_ones-ones.ensures, c.first_digit.ensures, c.second_digit.ensures) (stored_fill c.args.width c.args.bit c.requires).stored

pub returns-clause-bits : goal.returns-clause-bits
returns-clause-bits c =
    rw (c.low_ones-ones.ensures, c.first_digit.ensures, c.second_digit.ensures) (stored_fill c.args.width c.args.bit c.requires).word_is

pub returns-clause-width : goal.returns-clause-width
returns-clause-width c = length-word_of_planes _ _ _
