use Rattle.std.proofs.Common.{◌≡◌, drop}
use Rattle.lg_vread.specs.Reading.{operator_of, operators}
use Rattle.lg_vread.proofs.spelling.operator_of.Given as goal

-- the rest decides
abbrev pub invariant-loop-operator : goal.invariant-loop-operator
invariant-loop-operator l = operator_of operators l.word ≡ operator_of (drop l.operator-index operators) l.word
