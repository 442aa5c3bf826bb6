use Rattle.std.proofs.Common.{◌≡◌, take}
use Rattle.std.specs.Prelude.{filter_map}
use Rattle.lg_vmeaning.specs.Starting.{filled_memory}
use Rattle.lg_vmeaning.proofs.starting.filled_memories.Given as goal

-- the memories so far
abbrev pub invariant-loop-decl : goal.invariant-loop-decl
invariant-loop-decl l = l.memories.items ≡ filter_map (filled_memory l.«module») (take l.decl-index l.«module».decls)
