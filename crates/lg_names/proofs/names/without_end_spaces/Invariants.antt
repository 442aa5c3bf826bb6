use Rattle.std.proofs.Common.{◌≡◌, length}
use Rattle.std.specs.Prelude.{reverse}
use Rattle.lg_names.specs.Names.{without_spaces}
use Rattle.lg_names.proofs.names.without_end_spaces.Given as goal

-- spaces at the end do not count
abbrev pub invariant-loop-rest : goal.invariant-loop-rest
invariant-loop-rest l = without_spaces (reverse l.rest) ≡ without_spaces (reverse l.label)

abbrev pub decreases-loop-rest : goal.decreases-loop-rest
decreases-loop-rest l = length l.rest
