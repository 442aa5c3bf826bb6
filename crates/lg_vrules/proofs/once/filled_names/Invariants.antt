use Rattle.std.proofs.Common.{◌≡◌, map, take}
use Rattle.lg_vrules.proofs.once.filled_names.Given as goal

-- the names so far
abbrev pub invariant-loop-fill : goal.invariant-loop-fill
invariant-loop-fill l = map (λ name. name.now) l.names.items ≡ map (λ fill. fill.name) (take l.fill-index l.fills)
