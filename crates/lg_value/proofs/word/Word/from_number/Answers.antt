use Rattle.std.proofs.Common.{◌≡◌}
use Rattle.std.specs.Prelude.{bit_and}
use Rattle.lg_value.specs.Word.{word_of_number}
use Rattle.lg_value.specs.Storage.{word_of_planes, length-word_of_planes}
use Rattle.lg_value.proofs.StorageLemmas.{stored_number}
use Rattle.lg_value.proofs.WordLemmas.{IsDefined-word_of_number, number_of-word_of_number}
use Rattle.lg_value.proofs.word.Word.from_number.Goals as goal
use Rattle.lg_value.proofs.word.Word.from_number.Goals.{After-low_ones}

word_is : (c : After-low_ones) → word_of_planes c.args.width (bit_and c.args.n c.low_ones.result) 0 ≡ word_of_number c.args.width c.args.n
word_is c = rw c.low_ones.ensures (stored_number c.args.width c.args.n c.requires).word_is

pub invariant_of-result : goal.invariant_of-result
invariant_of-result c = rw c.low_ones.ensures (stored_number c.args.width c.args.n c.requires).stored

pub returns-clause-bits : goal.returns-clause-bits
returns-clause-bits c = word_is c

pub returns-clause-width : goal.returns-clause-width
returns-clause-width c = length-word_of_planes _ _ _

pub returns-clause-defined : goal.returns-clause-defined
returns-clause-defined c = rw (word_is c) (IsDefined-word_of_number c.args.width c.args.n)

pub returns-clause-number : goal.returns-clause-number
returns-clause-number c = rw (word_is c) (number_of-word_of_number c.args.width c.args.n)
