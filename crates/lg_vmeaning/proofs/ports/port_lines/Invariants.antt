use Rattle.std.proofs.Common.{◌≡◌, map, take}
use Rattle.lg_vrules.specs.Things.{port_thing}
use Rattle.lg_vmeaning.specs.Ports.{is_going, port_line}
use Rattle.lg_vmeaning.proofs.NameLemmas.{lines_in}
use Rattle.lg_vmeaning.proofs.ports.port_lines.Given as goal

-- the lines so far
abbrev pub invariant-loop-port : goal.invariant-loop-port
invariant-loop-port l = l.lines ≡ map port_line (lines_in (is_going l.direction) (map port_thing (take l.port-index l.«module».ports)))
