use Rattle.std.proofs.Common.{◌≡◌, ◌≤◌, ◌^◌, ◌%◌, true, take}
use Rattle.std.specs.List.{All}
use Rattle.lg_vectors.specs.Apart.{AreApart}
use Rattle.lg_vectors.specs.Values.{is_digit, number_from, free_from}
use Rattle.lg_vectors.proofs.digits.read_digits.Given as goal

-- the digits so far, of which the code keeps the low 64 bits that are not cared for
abbrev pub invariant-loop-byte : goal.invariant-loop-byte
invariant-loop-byte l = record {
  digits : All (λ c. is_digit l.size c ≡ true) (take l.byte-index l.text);
  number : l.number ≡ number_from (2 ^ l.size) 0 (take l.byte-index l.text);
  free : l.free ≡ free_from l.size 0 (take l.byte-index l.text) % 2 ^ 64;
  apart : AreApart l.number (free_from l.size 0 (take l.byte-index l.text));
  small : l.number ≤ l.most;
}
