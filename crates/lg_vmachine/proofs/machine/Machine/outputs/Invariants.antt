use Rattle.std.proofs.Common.{◌≡◌, ◌++◌, map, drop, slice_index_or}
use Rattle.lg_vmachine.proofs.machine.Machine.outputs.Given as goal

abbrev pub invariant-loop-index : goal.invariant-loop-index
invariant-loop-index l =
    l.outputs.items ++ map (λ index. slice_index_or l.numbers index 0) (drop l.index-index l.index-items) ≡ map (λ index. slice_index_or l.numbers index 0) l.self.outputs
