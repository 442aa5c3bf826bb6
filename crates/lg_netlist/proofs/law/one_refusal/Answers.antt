use Rattle.lg_netlist.proofs.OneRefusal.{one_refusal, accepted_not_refused}
use Rattle.lg_netlist.proofs.law.one_refusal.Goals as goal

pub returns-clause-one : goal.returns-clause-one
returns-clause-one c = one_refusal

pub returns-clause-accepted : goal.returns-clause-accepted
returns-clause-accepted c = accepted_not_refused
