use Rattle.std.proofs.Common.{◌≡◌, ◌++◌, map, drop}
use Rattle.lg_vmachine.specs.Machine.{written}
use Rattle.lg_vmachine.proofs.machine.Machine.written.Given as goal

abbrev pub invariant-loop-write : goal.invariant-loop-write
invariant-loop-write l =
    l.words.items ++ map (written l.regs.memories l.numbers) (drop l.write-index l.write-items) ≡ map (written l.regs.memories l.numbers) l.self.memories
