use Rattle.lg_circ.proofs.Numbers.{ReadsNumber}
use Rattle.lg_circ.proofs.point.number.Given as goal

abbrev pub invariant-loop-c : goal.invariant-loop-c
invariant-loop-c l = ReadsNumber l.number l.c-index l.digits
