use Rattle.lg_netlist.proofs.Judged.{judged}
use Rattle.lg_netlist.proofs.law.netlists_are_judged.Goals as goal

pub returns : goal.returns
returns c = judged
