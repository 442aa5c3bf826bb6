use Rattle.std.proofs.Common.{◌≡◌, map, take}
use Rattle.lg_nets.specs.Rays.{transposed}
use Rattle.lg_nets.proofs.rays.transposed.Given as goal

abbrev pub invariant-loop-segment : goal.invariant-loop-segment
invariant-loop-segment l = l.made.items ≡ map transposed (take l.segment-index l.segments)
