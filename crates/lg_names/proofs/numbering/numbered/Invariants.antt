use Rattle.lg_names.proofs.NumberingLemmas.{AreNumbered}
use Rattle.lg_names.proofs.numbering.numbered.Given as goal

-- the labels so far are numbered, and what is known are their numbers
abbrev pub invariant-loop-label : goal.invariant-loop-label
invariant-loop-label l = AreNumbered l.bound l.labels l.label-index l.known.items l.numbers.items l.count
