use Rattle.std.proofs.Common.{◌≡◌, drop}
use Rattle.std.specs.Prelude.{find}
use Rattle.lg_circ.specs.Tree.{is_named, children_of}
use Rattle.lg_circ.proofs.meaning.child.Given as goal

abbrev pub invariant-loop-child : goal.invariant-loop-child
invariant-loop-child l = find (is_named l.name) (drop l.child-index (children_of l.element)) ≡ find (is_named l.name) (children_of l.element)
