use Rattle.std.proofs.Common.{◌≡◌, map, take}
use Rattle.lg_vrules.specs.Rules.{stored_name}
use Rattle.lg_vrules.proofs.once.stored_names.Given as goal

-- the names so far
abbrev pub invariant-loop-stmt : goal.invariant-loop-stmt
invariant-loop-stmt l = map (λ name. name.now) l.names.items ≡ map stored_name (take l.stmt-index l.stmts)
