-- The first two among the drivers so far.
use Rattle.std.proofs.Common.{take}
use Rattle.lg_netlist.specs.FirstTwo.{AreTwoOf}
use Rattle.lg_netlist.proofs.first_two.first_two.Given as goal

abbrev pub invariant-loop-net : goal.invariant-loop-net
invariant-loop-net l = AreTwoOf l.netlist.nets (take l.net-index l.net-items) l.twos.items
