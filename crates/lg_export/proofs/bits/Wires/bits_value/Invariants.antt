use Rattle.std.proofs.Common.{◌≡◌, map, fold, drop}
use Rattle.lg_export.specs.Layout.{bit_on, on_top, runs}
use Rattle.lg_export.specs.Stack.{stack}
use Rattle.lg_export.proofs.bits.Wires.bits_value.Given as goal

-- the runs so far, with the bits that are left, make all
abbrev pub invariant-loop-net : goal.invariant-loop-net
invariant-loop-net l = fold on_top (stack l.top l.lower.items) (map (bit_on l.self.netlist.now) (drop l.net-index l.net-items)) ≡ runs (map (bit_on l.self.netlist.now) l.bits)
