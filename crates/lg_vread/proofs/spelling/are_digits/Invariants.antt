use Rattle.std.proofs.Common.{◌≡◌, drop}
use Rattle.std.specs.Str.{all_ascii_digits}
use Rattle.lg_vread.proofs.spelling.are_digits.Given as goal

-- the rest decides
abbrev pub invariant-loop-c : goal.invariant-loop-c
invariant-loop-c l = all_ascii_digits l.bytes ≡ all_ascii_digits (drop l.c-index l.bytes)
