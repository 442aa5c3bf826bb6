use Rattle.std.proofs.Common.{◌≡◌, ◌<◌, List, length, get_or, sym, subst, ◌∙◌}
use Rattle.std.specs.Prelude.{codes}
use Rattle.lg_circ.specs.declared.element.Element.{Element}
use Rattle.lg_circ.specs.Tree.{is_named, children_of}
use Rattle.lg_circ.specs.Meaning.{wire_of}
use Rattle.lg_circ.proofs.Each.{collect_in, collect_out}
use Rattle.lg_circ.proofs.meaning.wires.Goals as goal
use Rattle.lg_circ.proofs.meaning.wires.Goals.{then-has_name+in_ok-wire+in_ok-push, else-has_name}

pub loop-child-preserved : goal.loop-child-preserved
loop-child-preserved c =
    let xs = children_of c.args.circuit.now in
    let i = c.loop-child.child-index in
    let x = c.child-item.result in
    let named = is_named (codes "wire") in
    let lt : i < length xs = subst (λ (s : List Element). i < length s) c.as_slice-child-items.ensures c.loop-child-test.true in
    let at : x ≡ get_or xs i x = subst (λ (s : List Element). x ≡ get_or s i x) c.as_slice-child-items.ensures c.child-item.is in
    elim c.if-has_name.branch [
      | then-has_name+in_ok-wire+in_ok-push w ↦
          rw (w.wires-is, w.in_ok-push.ensures.ok) (collect_in named wire_of c.loop-child.wires i xs x w.in_ok-wire.field-0 lt at (sym c.has_name.ensures ∙ w.if-has_name.true) w.in_ok-wire.ensures c.loop-child.invariant)
      | else-has_name w ↦ rw w.wires-is (collect_out named wire_of c.loop-child.wires i xs x lt at (sym c.has_name.ensures ∙ w.if-has_name.false) c.loop-child.invariant)
    ]
