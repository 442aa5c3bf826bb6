use Rattle.std.proofs.Common.{◌≡◌, ◌++◌, drop}
use Rattle.lg_vmachine.specs.Machine.{run}
use Rattle.lg_vmachine.proofs.machine.Machine.solve.Given as goal

abbrev pub invariant-loop-input : goal.invariant-loop-input
invariant-loop-input l = l.numbers.items ++ drop l.input-index l.inputs ≡ l.inputs

abbrev pub invariant-loop-number : goal.invariant-loop-number
invariant-loop-number l = l.numbers.items ++ drop l.number-index l.number-items ≡ l.inputs ++ l.regs.numbers

-- the equations that are left give the same from here
abbrev pub invariant-loop-term : goal.invariant-loop-term
invariant-loop-term l =
    run l.regs.memories l.numbers.items (drop l.term-index l.term-items) ≡ run l.regs.memories (l.inputs ++ l.regs.numbers) l.self.equations
