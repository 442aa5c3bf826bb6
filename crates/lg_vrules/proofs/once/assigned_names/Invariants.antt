use Rattle.std.proofs.Common.{◌≡◌, map, take}
use Rattle.lg_vrules.proofs.once.assigned_names.Given as goal

-- the names so far
abbrev pub invariant-loop-assign : goal.invariant-loop-assign
invariant-loop-assign l = map (λ name. name.now) l.names.items ≡ map (λ assign. assign.name) (take l.assign-index l.assigns)
