use Rattle.lg_netlist.proofs.StaticLemmas.{static_values}
use Rattle.lg_netlist.proofs.law.accepted_netlists_have_static_values.Goals as goal

pub returns : goal.returns
returns c = λ n states row quiet accepted fits. let s = static_values n states row quiet accepted fits in (s.value, s.the, s.defined)
