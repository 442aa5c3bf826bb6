use Rattle.std.proofs.lemmas.Bool.Decides.{same_from_decides}
use Rattle.lg_value.proofs.StorageLemmas.{same_planes}
use Rattle.lg_value.proofs.WordLemmas.{Decides-same_word}
use Rattle.lg_value.proofs.word.WordPartialEq.eq.Goals as goal

pub returns-clause-eq : goal.returns-clause-eq
returns-clause-eq c = same_from_decides _ _ (same_planes (record { stored = c.self.invariant; word_is = c.self.view_is }) (record { stored = c.other.invariant; word_is = c.other.view_is })) (Decides-same_word c.args.self.now c.args.other.now)

pub returns-clause-same : goal.returns-clause-same
returns-clause-same c = same_planes (record { stored = c.self.invariant; word_is = c.self.view_is }) (record { stored = c.other.invariant; word_is = c.other.view_is })
