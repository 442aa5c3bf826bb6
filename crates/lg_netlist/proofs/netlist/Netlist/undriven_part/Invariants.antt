use Rattle.std.proofs.Common.{◌≡◌, drop}
use Rattle.std.specs.List.{enumerate_from}
use Rattle.lg_netlist.specs.Acceptance.{first_said, undriven_input, undriven_part}
use Rattle.lg_netlist.proofs.netlist.Netlist.undriven_part.Given as goal

-- what is said of the inputs that are left
abbrev pub invariant-loop-input : goal.invariant-loop-input
invariant-loop-input l = first_said (undriven_input l.self l.part) (enumerate_from l.input (drop l.input l.part.inputs)) ≡ undriven_part l.self l.part
