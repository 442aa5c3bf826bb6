use Rattle.std.proofs.Common.{◌≡◌, ◌++◌, map, drop}
use Rattle.std.specs.List.{enumerate_from}
use Rattle.lg_netlist.specs.Cell.{input_width, output_width}
use Rattle.lg_vtree.specs.declared.module.Decl.TheVariants as decl
use Rattle.lg_export.specs.Layout.{input_wire, output_wire, range_of, numbered, part_decls}
use Rattle.lg_export.proofs.LayoutLemmas.{attached_from}
use Rattle.lg_export.proofs.parts.put_decls.Given as goal

-- the wires so far and those that are left are all
abbrev pub invariant-loop-input : goal.invariant-loop-input
invariant-loop-input l =
    l.decls ++ map (λ i. decl.Wire (range_of (input_width l.used.cell i.0)) (input_wire l.part i.0)) (attached_from l.input (drop l.input l.used.inputs)) ++ map (λ o. decl.Wire (range_of (output_width l.used.cell o.0)) (output_wire l.part o.0)) (numbered l.used.outputs)
    ≡ l.fn.decls ++ part_decls (l.part, l.used)

abbrev pub invariant-loop-output : goal.invariant-loop-output
invariant-loop-output l =
    l.decls ++ map (λ o. decl.Wire (range_of (output_width l.used.cell o.0)) (output_wire l.part o.0)) (enumerate_from l.output (drop l.output l.used.outputs)) ≡ l.fn.decls ++ part_decls (l.part, l.used)
