use Rattle.std.proofs.Common.{◌≡◌, ◌++◌, drop}
use Rattle.std.specs.Prelude.{option_map}
use Rattle.lg_flatten.specs.Uses.{roles_of}
use Rattle.lg_flatten.proofs.uses.roles.Given as goal

-- the roles so far and those that are left are all
abbrev pub invariant-loop-comp : goal.invariant-loop-comp
invariant-loop-comp l = option_map (λ more. l.roles.items ++ more) (roles_of l.libs (drop l.comp-index l.comps)) ≡ roles_of l.libs l.comps
