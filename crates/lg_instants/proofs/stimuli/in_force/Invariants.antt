use Rattle.std.proofs.Common.{◌≡◌, fold, take, if◌then◌else◌}
use Rattle.std.specs.Prelude.{nat_le}
use Rattle.lg_timing.specs.Circuit.{Stimulus}
use Rattle.lg_timing.specs.Instant.{silence}
use Rattle.lg_instants.proofs.stimuli.in_force.Given as goal

abbrev pub invariant-loop-later : goal.invariant-loop-later
invariant-loop-later l =
    l.force ≡ fold (λ (s later : Stimulus). if nat_le later.from l.instant then later else s) silence (take l.later-index l.stimuli)
