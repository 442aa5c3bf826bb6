use Rattle.std.proofs.Common.{◌≡◌, ◌++◌, map, take}
use Rattle.lg_nets.specs.Rays.{dot, reversed}
use Rattle.lg_nets.specs.Segment.{segment_of}
use Rattle.lg_nets.proofs.rays.rays.Given as goal

abbrev pub invariant-loop-port : goal.invariant-loop-port
invariant-loop-port l = l.made.items ≡ map dot (take l.port-index l.ports)

abbrev pub invariant-loop-wire : goal.invariant-loop-wire
invariant-loop-wire l = l.made.items ≡ map dot l.ports ++ map segment_of (take l.wire-index l.wires)

abbrev pub invariant-loop-wire-2 : goal.invariant-loop-wire-2
invariant-loop-wire-2 l = l.made.items ≡ map dot l.ports ++ map segment_of l.wires ++ map reversed (map segment_of (take l.wire-index l.wires))
