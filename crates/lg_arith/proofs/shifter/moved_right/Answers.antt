use Rattle.std.proofs.Common.{arith}
use Rattle.lg_arith.proofs.ShiftLemmas.{moved_right_in}
use Rattle.lg_arith.proofs.shifter.moved_right.Goals as goal

pub returns-clause-bits : goal.returns-clause-bits
returns-clause-bits c =
    let inside = moved_right_in c.args.above c.args.a.now c.args.distance (omega arith) in
    cc
