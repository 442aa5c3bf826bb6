-- Both are drivers of the netlist.
use Rattle.lg_netlist.proofs.AcceptanceLemmas.{two_drivers}
use Rattle.lg_netlist.proofs.netlist.Netlist.contested.Goals as goal

pub driver_name-requires : goal.driver_name-requires
driver_name-requires c = (two_drivers c.args.self.now c.args.net c.args.two c.in-Some.first c.in-Some-second.second c.requires c.in-Some.is c.in-Some-second.is).0

pub driver_name-requires-2 : goal.driver_name-requires-2
driver_name-requires-2 c = (two_drivers c.args.self.now c.args.net c.args.two c.in-Some.first c.in-Some-second.second c.requires c.in-Some.is c.in-Some-second.is).1
