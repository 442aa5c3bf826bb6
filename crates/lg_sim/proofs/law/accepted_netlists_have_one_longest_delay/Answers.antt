use Rattle.lg_sim.proofs.LongestChain.{has_longest, one_longest}
use Rattle.lg_sim.proofs.law.accepted_netlists_have_one_longest_delay.Goals as goal

pub returns : goal.returns
returns c = λ n accepted. let found = has_longest n accepted in (found.0, found.1, λ other is. one_longest n found.0 other found.1 is)
