use Rattle.std.proofs.Common.{◌≡◌, drop}
use Rattle.lg_netlist.specs.Longest.{raised}
use Rattle.lg_netlist.proofs.longest.raise.Given as goal

-- what is to be raised still
abbrev pub invariant-loop-net : goal.invariant-loop-net
invariant-loop-net l = raised l.delay (drop l.net-index l.nets) l.arrivals ≡ raised l.delay l.nets l.fn.arrivals
