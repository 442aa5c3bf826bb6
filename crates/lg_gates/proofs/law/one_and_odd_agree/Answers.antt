use Rattle.lg_gates.proofs.GateLaws.{one_and_odd, xnor_one_and_odd}
use Rattle.lg_gates.proofs.law.one_and_odd_agree.Goals as goal

pub returns : goal.returns
returns c = record { xor = one_and_odd; xnor = xnor_one_and_odd }
