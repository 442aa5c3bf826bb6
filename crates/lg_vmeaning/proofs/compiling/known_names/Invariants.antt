use Rattle.std.proofs.Common.{◌≡◌, ◌++◌, map, take}
use Rattle.std.specs.Prelude.{filter_map, slice_get}
use Rattle.lg_vmeaning.proofs.compiling.known_names.Given as goal

-- the inputs so far
abbrev pub invariant-loop-line : goal.invariant-loop-line
invariant-loop-line l = map (λ name. name.now) l.names.items ≡ map (λ line. line.name) (take l.line-index l.inputs)

-- and the registers so far
abbrev pub invariant-loop-name : goal.invariant-loop-name
invariant-loop-name l = map (λ name. name.now) l.names.items ≡ map (λ line. line.name) l.inputs ++ map (λ name. name.now) (take l.name-index l.registers)

-- and what the assigns give, so far
abbrev pub invariant-loop-index : goal.invariant-loop-index
invariant-loop-index l =
    map (λ name. name.now) l.names.items
    ≡ map (λ line. line.name) l.inputs ++ map (λ name. name.now) l.registers ++ map (λ assign. assign.name) (filter_map (slice_get l.assigns) (take l.index-index l.order))
