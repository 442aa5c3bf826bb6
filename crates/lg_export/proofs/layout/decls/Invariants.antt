use Rattle.std.proofs.Common.{◌≡◌, ◌++◌, drop}
use Rattle.std.specs.List.{flat_map, enumerate_from}
use Rattle.lg_export.specs.Layout.{numbered, part_decls}
use Rattle.lg_export.proofs.layout.decls.Given as goal

-- the wires so far and those that are left are all
abbrev pub invariant-loop-part : goal.invariant-loop-part
invariant-loop-part l = l.decls ++ flat_map part_decls (enumerate_from l.part (drop l.part l.netlist.parts)) ≡ flat_map part_decls (numbered l.netlist.parts)
