use Rattle.std.proofs.Common.{◌≡◌, fold, drop, map}
use Rattle.lg_value.specs.Bit.{join_bits}
use Rattle.lg_instants.specs.Plain.{parts_on}
use Rattle.lg_instants.proofs.drivers.join_parts.Given as goal

abbrev pub invariant-loop-i : goal.invariant-loop-i
invariant-loop-i g l =
    fold join_bits l.joined (parts_on l.net (map g.P.Behaviour.meaning (drop l.i l.parts)) (drop l.i l.outputs)) ≡ fold join_bits l.fn.bit (parts_on l.net (map g.P.Behaviour.meaning l.parts) l.outputs)
