use Rattle.std.proofs.Common.{◌≡◌, max}
use Rattle.lg_netlist.specs.Graph.{read_nets}
use Rattle.lg_netlist.specs.Longest.{latest}
use Rattle.lg_netlist.proofs.LongestLemmas.{nets_from}
use Rattle.lg_netlist.proofs.longest.arrival_at.Given as goal

-- the latest so far, and that on the nets of the inputs that are left
abbrev pub invariant-loop-input : goal.invariant-loop-input
invariant-loop-input l = max l.arrival (latest l.arrivals (nets_from l.part l.output l.input)) ≡ latest l.arrivals (read_nets l.part l.output)
