use Rattle.std.proofs.Common.{◌≡◌, length, map, take}
use Rattle.std.specs.List.{range_with_len}
use Rattle.lg_shapes.specs.Gates.{read_at}
use Rattle.lg_shapes.proofs.gates.read_inputs.Given as goal

-- so many inputs stand in the room
abbrev pub invariant-loop-k : goal.invariant-loop-k
invariant-loop-k l = record {
  read : take l.k l.room ≡ map (read_at l.negated l.attached l.inputs) (range_with_len 0 l.k);
  length : length l.room ≡ length l.fn.room;
}
