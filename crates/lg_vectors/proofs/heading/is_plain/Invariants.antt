use Rattle.std.proofs.Common.{◌≡◌, false, take}
use Rattle.std.specs.List.{All}
use Rattle.lg_vectors.specs.VectorText.{is_mark}
use Rattle.lg_vectors.proofs.heading.is_plain.Given as goal

abbrev pub invariant-loop-byte : goal.invariant-loop-byte
invariant-loop-byte l = All (λ c. is_mark c ≡ false) (take l.byte-index l.name)
