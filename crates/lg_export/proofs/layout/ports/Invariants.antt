use Rattle.std.proofs.Common.{◌≡◌, ◌++◌, map, drop}
use Rattle.lg_netlist.specs.Static.{input_pins}
use Rattle.lg_export.specs.Layout.{module_ports}
use Rattle.lg_netlist.proofs.PinLemmas.{pointed}
use Rattle.lg_export.proofs.LayoutLemmas.{input_port, output_port}
use Rattle.lg_export.proofs.layout.ports.Given as goal

-- the ports so far and those that are left are all
abbrev pub invariant-loop-pin : goal.invariant-loop-pin
invariant-loop-pin l = l.ports ++ map input_port (pointed (drop l.pin-index l.pin-items)) ≡ map input_port (input_pins l.netlist)

abbrev pub invariant-loop-pin-2 : goal.invariant-loop-pin-2
invariant-loop-pin-2 l = l.ports ++ map output_port (pointed (drop l.pin-index l.pin-items)) ≡ module_ports l.netlist
