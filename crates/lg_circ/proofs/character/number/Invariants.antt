use Rattle.lg_circ.proofs.Digits.{ReadsDigits}
use Rattle.lg_circ.proofs.character.number.Given as goal

abbrev pub invariant-loop-c : goal.invariant-loop-c
invariant-loop-c l = ReadsDigits l.base l.number l.c-index l.digits
