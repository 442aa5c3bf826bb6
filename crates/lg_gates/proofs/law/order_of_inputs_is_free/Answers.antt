use Rattle.lg_gates.proofs.GateLaws.{gate_word-IsPermutation}
use Rattle.lg_gates.proofs.law.order_of_inputs_is_free.Goals as goal

pub returns : goal.returns
returns c = gate_word-IsPermutation
