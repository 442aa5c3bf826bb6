use Rattle.std.proofs.Common.{◌≡◌, drop, max}
use Rattle.lg_netlist.specs.Longest.{latest}
use Rattle.lg_netlist.proofs.longest.latest.Given as goal

-- the latest so far, and that on the nets that are left
abbrev pub invariant-loop-net : goal.invariant-loop-net
invariant-loop-net l = max l.arrival (latest l.arrivals (drop l.net-index l.nets)) ≡ latest l.arrivals l.nets
