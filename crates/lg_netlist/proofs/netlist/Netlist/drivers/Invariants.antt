-- The drivers of the net so far, and those that are left.
use Rattle.std.proofs.Common.{◌≡◌, ◌++◌, drop}
use Rattle.lg_netlist.specs.Drivers.{on_net}
use Rattle.lg_netlist.proofs.netlist.Netlist.drivers.Given as goal

abbrev pub invariant-loop-on : goal.invariant-loop-on
invariant-loop-on l = l.found.items ++ on_net l.net (drop l.on-index l.on-items) ≡ on_net l.net l.on-items
