use Rattle.std.proofs.Common.{◌++◌, map, take}
use Rattle.lg_vrules.specs.Known.{KnowsThings}
use Rattle.lg_vrules.specs.Things.{port_thing, decl_thing}
use Rattle.lg_vrules.proofs.names.NameIndex.of.Given as goal

-- the ports so far are known
abbrev pub invariant-loop-port : goal.invariant-loop-port
invariant-loop-port l = KnowsThings (map port_thing (take l.port-index l.«module».ports)) l.names

-- the ports and the declarations so far are known
abbrev pub invariant-loop-decl : goal.invariant-loop-decl
invariant-loop-decl l = KnowsThings (map port_thing l.«module».ports ++ map decl_thing (take l.decl-index l.«module».decls)) l.names
