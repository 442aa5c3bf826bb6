use Rattle.lg_attrs.proofs.Distinct.{Distinct}
use Rattle.lg_attrs.proofs.Members.{member}
use Rattle.lg_attrs.proofs.pairs.many_differ.Given as goal

abbrev pub invariant-loop-name : goal.invariant-loop-name
invariant-loop-name l = Distinct (member l.names) l.name-index l.pairs
