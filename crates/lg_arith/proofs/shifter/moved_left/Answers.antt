use Rattle.std.proofs.Common.{arith}
use Rattle.lg_arith.proofs.ShiftLemmas.{moved_left_out, moved_left_in}
use Rattle.lg_arith.proofs.shifter.moved_left.Goals as goal

pub returns-then-distance-from-clause-bits : goal.returns-then-distance-from-clause-bits
returns-then-distance-from-clause-bits c =
    let out = moved_left_out c.args.a.now c.args.distance (omega arith) in
    cc

pub returns-clause-bits : goal.returns-clause-bits
returns-clause-bits c =
    let inside = moved_left_in c.args.a.now c.args.distance (omega arith) in
    cc
