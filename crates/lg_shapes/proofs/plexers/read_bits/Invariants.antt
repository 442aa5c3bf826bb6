use Rattle.std.proofs.Common.{◌≡◌, length, take}
use Rattle.lg_shapes.specs.Plexers.{first_bits}
use Rattle.lg_shapes.proofs.plexers.read_bits.Given as goal

-- the bits of so many words stand in the room
abbrev pub invariant-loop-k : goal.invariant-loop-k
invariant-loop-k l = record {
  read : take l.k l.room ≡ first_bits (take l.k l.words);
  length : length l.room ≡ length l.fn.room;
}
