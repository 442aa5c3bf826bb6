-- The rays are the dots, the wires and the reversed wires.
use Rattle.std.proofs.Common.{◌++◌, map, arith, ap, ◌∙◌, take_all, List}
use Rattle.lg_circ.specs.declared.project.Wire.{Wire}
use Rattle.lg_nets.specs.Rays.{rays, dot, reversed}
use Rattle.lg_nets.specs.Segment.{segment_of}
use Rattle.lg_nets.proofs.rays.rays.Goals as goal

pub returns : goal.returns
unfolding rays
returns c =
    let wires = c.args.wires.now in
    c.loop-wire-2.invariant ∙ ap (λ (ws : List Wire). map dot c.args.ports.now ++ map segment_of wires ++ map reversed (map segment_of ws)) (take_all c.loop-wire-2.wire-index wires (omega arith))
