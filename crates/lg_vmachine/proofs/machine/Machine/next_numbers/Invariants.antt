use Rattle.std.proofs.Common.{◌≡◌, ◌++◌, map, zip}
use Rattle.std.specs.Iterator.Adapters.{zip_first, zip_second}
use Rattle.std.specs.Slice.Iter.{iter_rest}
use Rattle.lg_vmachine.specs.Machine.{next_number}
use Rattle.lg_vmachine.proofs.machine.Machine.next_numbers.Given as goal

-- what is computed, and then what the registers that are left give
abbrev pub invariant-loop-term : goal.invariant-loop-term
invariant-loop-term l =
    l.next.items ++ map (next_number l.regs.memories l.numbers) (zip (iter_rest (zip_first l.term-iterator)) (iter_rest (zip_second l.term-iterator)))
    ≡ map (next_number l.regs.memories l.numbers) (zip l.self.registers l.regs.numbers)
