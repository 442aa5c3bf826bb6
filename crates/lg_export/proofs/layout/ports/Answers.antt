-- Each pin has a name that a module can spell, and 1 to 64 bits.
use Rattle.std.proofs.Common.{ap, ◌∙◌, arith}
use Rattle.lg_netlist.specs.Static.{input_pins, output_pins}
use Rattle.lg_netlist.specs.Valid.{IsFittingPin}
use Rattle.lg_netlist.proofs.PinLemmas.{pointed, pointed-All}
use Rattle.lg_export.proofs.LayoutLemmas.{inputs_fit, outputs_fit}
use Rattle.lg_export.proofs.layout.ports.Goals as goal
use Rattle.lg_export.proofs.layout.ports.Goals.{After-pin-item, After-pin-item-in-loop-pin-2}

input_fits : (c : After-pin-item) → IsFittingPin c.args.netlist.now.nets c.pin-item.result.now
input_fits c =
    let n = c.args.netlist.now in
    let same = ap pointed c.deref-pin-items.ensures.value ∙ c.in_ok-inputs.ensures in
    pointed-All (IsFittingPin n.nets) (input_pins n) c.deref-pin-items.result.now c.loop-pin.pin-index c.pin-item.result same (inputs_fit n) c.loop-pin-test.true c.pin-item.is

output_fits : (c : After-pin-item-in-loop-pin-2) → IsFittingPin c.args.netlist.now.nets c.pin-item-in-loop-pin-2.result.now
output_fits c =
    let n = c.args.netlist.now in
    let same = ap pointed c.deref-pin-items-2.ensures.value ∙ c.in_ok-outputs.ensures in
    pointed-All (IsFittingPin n.nets) (output_pins n) c.deref-pin-items-2.result.now c.loop-pin-2.pin-index c.pin-item-in-loop-pin-2.result same (outputs_fit n)
    c.loop-pin-2-test.true c.pin-item-in-loop-pin-2.is

pub input_name-requires : goal.input_name-requires
input_name-requires c = (input_fits (goal.at.input_name-requires c).After-pin-item).named

pub overflow_cast-len : goal.overflow_cast-len
overflow_cast-len c = let fits = input_fits (goal.at.overflow_cast-len c).After-pin-item in omega (arith, fits.few_bits, c.len.ensures)

pub range_of-requires : goal.range_of-requires
range_of-requires c = let fits = input_fits (goal.at.range_of-requires c).After-pin-item in omega (arith, fits.some_bits, c.len.ensures)

pub output_name-requires : goal.output_name-requires
output_name-requires c = (output_fits (goal.at.output_name-requires c).After-pin-item-in-loop-pin-2).named

pub overflow_cast-len-in-loop-pin-2 : goal.overflow_cast-len-in-loop-pin-2
overflow_cast-len-in-loop-pin-2 c = let fits = output_fits (goal.at.overflow_cast-len-in-loop-pin-2 c).After-pin-item-in-loop-pin-2 in omega (arith, fits.few_bits, c.len-in-loop-pin-2.ensures)

pub range_of-requires-in-loop-pin-2 : goal.range_of-requires-in-loop-pin-2
range_of-requires-in-loop-pin-2 c = let fits = output_fits (goal.at.range_of-requires-in-loop-pin-2 c).After-pin-item-in-loop-pin-2 in omega (arith, fits.some_bits, c.len-in-loop-pin-2.ensures)
