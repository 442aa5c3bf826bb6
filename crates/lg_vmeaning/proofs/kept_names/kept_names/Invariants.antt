use Rattle.std.proofs.Common.{◌≡◌, map, take}
use Rattle.lg_vrules.specs.Things.{decl_thing}
use Rattle.lg_vmeaning.specs.Ports.{is_kept_as}
use Rattle.lg_vmeaning.proofs.NameLemmas.{names_in}
use Rattle.lg_vmeaning.proofs.kept_names.kept_names.Given as goal

-- the names so far
abbrev pub invariant-loop-decl : goal.invariant-loop-decl
invariant-loop-decl l = map (λ name. name.now) l.names.items ≡ names_in (is_kept_as l.storage) (map decl_thing (take l.decl-index l.«module».decls))
