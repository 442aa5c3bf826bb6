use Rattle.lg_flatten.proofs.OneNetlist.{one_netlist}
use Rattle.lg_flatten.proofs.SomeNetlist.{netlist_exists}
use Rattle.lg_flatten.proofs.law.sheets_have_netlists.Goals as goal

pub returns : goal.returns
returns c = record { found = netlist_exists; one = one_netlist }
