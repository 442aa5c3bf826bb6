use Rattle.std.proofs.Common.{◌≡◌, length}
use Rattle.lg_netlist.proofs.LongestLemmas.{AreArrivals}
use Rattle.lg_netlist.proofs.netlist.Netlist.longest.Given as goal

-- what the outputs so far give
abbrev pub invariant-loop-output : goal.invariant-loop-output
invariant-loop-output l = record {
  are : AreArrivals l.self l.output-items l.output-index l.arrivals.items l.longest;
  nets : length l.arrivals.items ≡ l.self.nets;
}
