use Rattle.lg_value.proofs.StorageLemmas.{number_is_first}
use Rattle.lg_value.proofs.WordLemmas.{number_of-lt, word_of_number-number_of}
use Rattle.lg_value.proofs.word.Word.number.Goals as goal

pub returns-clause-sum : goal.returns-clause-sum
returns-clause-sum c = number_is_first (record { stored = c.self.invariant; word_is = c.self.view_is }) c.requires

pub returns-clause-fits : goal.returns-clause-fits
returns-clause-fits c = rw (number_is_first (record { stored = c.self.invariant; word_is = c.self.view_is }) c.requires) (number_of-lt c.args.self.now)

pub returns-clause-undone : goal.returns-clause-undone
returns-clause-undone c = rw (number_is_first (record { stored = c.self.invariant; word_is = c.self.view_is }) c.requires) (word_of_number-number_of c.args.self.now c.requires)
