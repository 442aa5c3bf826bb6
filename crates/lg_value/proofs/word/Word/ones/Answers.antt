use Rattle.std.proofs.Common.{◌≤◌, length, subst, sym}
use Rattle.std.proofs.lemmas.List.Sums.{count_by-le-length}
use Rattle.lg_value.specs.declared.bit.Bit.TheVariants.{One}
use Rattle.lg_value.specs.Bit.{same_bit}
use Rattle.lg_value.proofs.StorageLemmas.{stored_ones}
use Rattle.lg_value.proofs.word.Word.ones.Goals as goal

pub returns-clause-ones : goal.returns-clause-ones
returns-clause-ones c = stored_ones (record { stored = c.self.invariant; word_is = c.self.view_is })

pub returns-clause-inside : goal.returns-clause-inside
returns-clause-inside c =
    subst (λ n. n ≤ length c.args.self.now) (sym (stored_ones (record { stored = c.self.invariant; word_is = c.self.view_is }))) (count_by-le-length (same_bit One) c.args.self.now)
