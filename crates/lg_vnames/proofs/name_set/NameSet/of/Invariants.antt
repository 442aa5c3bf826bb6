use Rattle.std.proofs.Common.{map, take}
use Rattle.lg_vnames.specs.Sets.{KnowsNames}
use Rattle.lg_vnames.proofs.name_set.NameSet.of.Given as goal

-- the names so far are known
abbrev pub invariant-loop-name : goal.invariant-loop-name
invariant-loop-name l = KnowsNames (map (λ name. name.now) (take l.name-index l.names)) l.set
