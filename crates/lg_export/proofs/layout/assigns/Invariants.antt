use Rattle.std.proofs.Common.{◌≡◌, ◌++◌, map, drop}
use Rattle.std.specs.List.{flat_map, enumerate_from}
use Rattle.lg_export.specs.Layout.{numbered, part_assigns, module_assigns}
use Rattle.lg_netlist.proofs.PinLemmas.{pointed}
use Rattle.lg_export.proofs.LayoutLemmas.{output_assign}
use Rattle.lg_export.proofs.layout.assigns.Given as goal

-- the equations so far and those that are left are all
abbrev pub invariant-loop-part : goal.invariant-loop-part
invariant-loop-part l =
    l.assigns ++ flat_map (part_assigns l.netlist) (enumerate_from l.part (drop l.part l.netlist.parts)) ≡ flat_map (part_assigns l.netlist) (numbered l.netlist.parts)

abbrev pub invariant-loop-pin : goal.invariant-loop-pin
invariant-loop-pin l = l.assigns ++ map (output_assign l.netlist) (pointed (drop l.pin-index l.pin-items)) ≡ module_assigns l.netlist
