use Rattle.std.specs.Prelude.{codes}
use Rattle.lg_circ.specs.Tree.{is_named, children_of}
use Rattle.lg_circ.specs.Meaning.{sheet_of}
use Rattle.lg_circ.proofs.Each.{Collects}
use Rattle.lg_circ.proofs.meaning.sheets.Given as goal

abbrev pub invariant-loop-child : goal.invariant-loop-child
invariant-loop-child l = Collects (is_named (codes "circuit")) sheet_of l.sheets l.child-index (children_of l.root)
