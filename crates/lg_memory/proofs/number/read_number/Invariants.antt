use Rattle.std.proofs.Common.{◌≡◌, ◌<◌, ◌≤◌, take}
use Rattle.std.specs.List.{All}
use Rattle.lg_memory.specs.Image.{digit_value, number_in}
use Rattle.lg_memory.proofs.number.read_number.Given as goal

abbrev pub invariant-loop-byte : goal.invariant-loop-byte
invariant-loop-byte l = record {
  so_far : l.number ≡ number_in l.base (take l.byte-index l.text);
  digits : All (λ c. digit_value c < l.base) (take l.byte-index l.text);
  small : l.number ≤ l.most;
}
