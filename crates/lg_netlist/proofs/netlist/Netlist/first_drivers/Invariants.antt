-- The first of each two so far.
use Rattle.std.proofs.Common.{◌≡◌, map, take}
use Rattle.lg_netlist.specs.declared.first_two.FirstTwo.{FirstTwo}
use Rattle.lg_netlist.proofs.netlist.Netlist.first_drivers.Given as goal

abbrev pub invariant-loop-two : goal.invariant-loop-two
invariant-loop-two l = l.found.items ≡ map (λ (two : FirstTwo). two.first) (take l.two-index l.two-items)
