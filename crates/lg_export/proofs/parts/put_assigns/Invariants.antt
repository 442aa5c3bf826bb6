use Rattle.std.proofs.Common.{◌≡◌, ◌++◌, map, drop}
use Rattle.lg_vtree.specs.declared.expr.Expr.TheVariants.{Whole}
use Rattle.lg_export.specs.Layout.{input_wire, bits_value, attached}
use Rattle.lg_export.proofs.LayoutLemmas.{attached_from}
use Rattle.lg_export.proofs.parts.put_assigns.Given as goal

-- the equations and the wires so far and those that are left are all
abbrev pub invariant-loop-input : goal.invariant-loop-input
invariant-loop-input l = record {
  equations : l.assigns ++ map (λ i. record { name = input_wire l.part i.0; value = bits_value l.wires.netlist.now i.1 }) (attached_from l.input (drop l.input l.bits-items))
      ≡ l.fn.assigns ++ map (λ i. record { name = input_wire l.part i.0; value = bits_value l.wires.netlist.now i.1 }) (attached l.used);
  wires : l.read.items ++ map (λ i. Whole (input_wire l.part i.0)) (attached_from l.input (drop l.input l.bits-items)) ≡ map (λ i. Whole (input_wire l.part i.0)) (attached l.used);
}
