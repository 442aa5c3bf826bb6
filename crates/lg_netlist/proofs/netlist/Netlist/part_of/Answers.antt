-- The part is there, and it fits.
use Rattle.lg_netlist.proofs.NetGraphLemmas.{part_is, part_fits}
use Rattle.lg_netlist.proofs.netlist.Netlist.part_of.Goals as goal
