use Rattle.lg_vmeaning.specs.Solution.{IsOf}
use Rattle.lg_verilog_tests.proofs.vmeaning.outputs_after.Given as goal

-- what is kept fits the module
abbrev pub invariant-loop : goal.invariant-loop
invariant-loop l = IsOf l.«module» l.regs
