use Rattle.std.proofs.Common.{◌≡◌, drop}
use Rattle.std.specs.List.{list_any}
use Rattle.lg_netlist.specs.Acceptance.{is_undriven}
use Rattle.lg_netlist.proofs.netlist.Netlist.some_undriven.Given as goal

-- whether some of the bits that are left is undriven
abbrev pub invariant-loop-net : goal.invariant-loop-net
invariant-loop-net l = list_any (is_undriven l.self) (drop l.net-index l.bits) ≡ list_any (is_undriven l.self) l.bits
