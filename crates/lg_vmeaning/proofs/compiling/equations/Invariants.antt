use Rattle.std.proofs.Common.{◌≡◌, map, take}
use Rattle.std.specs.Prelude.{filter_map, slice_get}
use Rattle.lg_vmeaning.specs.ByName.{term_by}
use Rattle.lg_vmeaning.proofs.compiling.equations.Given as goal

-- the terms so far
abbrev pub invariant-loop-index : goal.invariant-loop-index
invariant-loop-index l = l.terms ≡ map (λ assign. term_by l.resolver assign.value) (filter_map (slice_get l.assigns) (take l.index-index l.order))
