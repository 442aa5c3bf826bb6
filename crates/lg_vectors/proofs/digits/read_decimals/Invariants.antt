use Rattle.std.proofs.Common.{◌≡◌, ◌<◌, ◌≤◌, take}
use Rattle.std.specs.List.{All}
use Rattle.lg_vectors.specs.Values.{digit_value, number_from}
use Rattle.lg_vectors.proofs.digits.read_decimals.Given as goal

-- the digits so far
abbrev pub invariant-loop-byte : goal.invariant-loop-byte
invariant-loop-byte l = record {
  digits : All (λ c. digit_value c < 10) (take l.byte-index l.text);
  number : l.number ≡ number_from 10 0 (take l.byte-index l.text);
  small : l.number ≤ l.most;
}
