use Rattle.lg_gates.proofs.PriorityLemmas.{greatest_one-is, address-greatest_one}
use Rattle.lg_gates.proofs.law.greatest_one_is_greatest.Goals as goal

pub returns-clause-greatest : goal.returns-clause-greatest
returns-clause-greatest c = greatest_one-is

pub returns-clause-address : goal.returns-clause-address
returns-clause-address c = address-greatest_one
