use Rattle.std.proofs.Common.{◌≡◌, map, take}
use Rattle.lg_vmeaning.specs.Compiled.{next_by}
use Rattle.lg_vmeaning.specs.ByName.{term_by, stmt_under}
use Rattle.lg_vmeaning.proofs.stores.Stores.nexts.Given as goal

-- those so far
abbrev pub invariant-loop-name : goal.invariant-loop-name
invariant-loop-name l = l.terms ≡ map (λ name. next_by (term_by l.self.resolver) (stmt_under l.self name.now)) (take l.name-index l.registers)
