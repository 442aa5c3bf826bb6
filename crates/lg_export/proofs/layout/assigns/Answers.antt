-- Each output pin has a name that a module can spell, and something drives it.
use Rattle.std.proofs.Common.{List, ℕ, ap, sym, subst, ◌∙◌}
use Rattle.lg_netlist.specs.declared.netlist.Netlist.{Netlist}
use Rattle.lg_netlist.specs.declared.netlist.PinUse.{PinUse}
use Rattle.lg_netlist.specs.Static.{output_pins}
use Rattle.lg_netlist.specs.Valid.{IsFittingPin}
use Rattle.lg_netlist.proofs.PinLemmas.{pointed, pointed-All}
use Rattle.lg_export.specs.Readable.{IsReadable}
use Rattle.lg_export.proofs.LayoutLemmas.{outputs_fit}
use Rattle.lg_export.proofs.layout.assigns.Goals as goal

pub output_name-requires : goal.output_name-requires
output_name-requires c =
    let n = c.args.netlist.now in
    let same = ap pointed c.deref-pin-items.ensures.value ∙ c.in_ok-outputs.ensures in
    (pointed-All (IsFittingPin n.nets) (output_pins n) c.deref-pin-items.result.now c.loop-pin.pin-index c.pin-item.result same (outputs_fit n) c.loop-pin-test.true c.pin-item.is).named

pub bits_value-requires-clause-readable : goal.bits_value-requires-clause-readable
bits_value-requires-clause-readable c =
    let n = c.args.netlist.now in
    let same = ap pointed c.deref-pin-items.ensures.value ∙ c.in_ok-outputs.ensures in
    let read = pointed-All (λ (pin : PinUse). IsReadable n pin.bits) (output_pins n) c.deref-pin-items.result.now c.loop-pin.pin-index c.pin-item.result same c.requires.read c.loop-pin-test.true c.pin-item.is in
    subst (λ (m : Netlist). IsReadable m c.as_slice.result.now) (sym c.in_ok-wires.ensures.netlist)
    (subst (λ (bits : List ℕ). IsReadable n bits) (sym c.as_slice.ensures) read)
