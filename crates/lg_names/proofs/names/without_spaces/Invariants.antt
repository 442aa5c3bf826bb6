use Rattle.std.proofs.Common.{◌≡◌, length}
use Rattle.lg_names.specs.Names.{without_spaces}
use Rattle.lg_names.proofs.names.without_spaces.Given as goal

-- spaces at the front do not count
abbrev pub invariant-loop-rest : goal.invariant-loop-rest
invariant-loop-rest l = without_spaces l.rest ≡ without_spaces l.label

abbrev pub decreases-loop-rest : goal.decreases-loop-rest
decreases-loop-rest l = length l.rest
