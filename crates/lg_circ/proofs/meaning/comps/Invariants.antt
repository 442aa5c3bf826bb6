use Rattle.std.specs.Prelude.{codes}
use Rattle.lg_circ.specs.Tree.{is_named, children_of}
use Rattle.lg_circ.specs.Meaning.{comp_of}
use Rattle.lg_circ.proofs.Each.{Collects}
use Rattle.lg_circ.proofs.meaning.comps.Given as goal

abbrev pub invariant-loop-child : goal.invariant-loop-child
invariant-loop-child l = Collects (is_named (codes "comp")) comp_of l.comps l.child-index (children_of l.circuit)
