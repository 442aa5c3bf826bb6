use Rattle.std.proofs.Common.{◌≡◌, ◌++◌, take}
use Rattle.lg_netlist.proofs.order.put_nets.Given as goal

abbrev pub invariant-loop-net : goal.invariant-loop-net
invariant-loop-net l = l.nets ≡ l.fn.nets ++ take l.net-index l.bits
