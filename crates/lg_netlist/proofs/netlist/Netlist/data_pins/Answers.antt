-- One pin more, which is kept or is the clock pin.
use Rattle.std.proofs.Common.{◌≡◌, ◌++◌, ◌+◌, [], ◌∷◌, List, drop, sym, ap, false, true, ◌∙◌, arith}
use Rattle.std.proofs.lemmas.Grind.{common_steps}
use Rattle.lg_netlist.specs.declared.netlist.PinUse.{PinUse}
use Rattle.lg_netlist.proofs.PinLemmas.{pointed, data_pins_from, data_pins-from, data_pins-more}
use Rattle.lg_netlist.proofs.netlist.Netlist.data_pins.Goals as goal
use Rattle.lg_netlist.proofs.netlist.Netlist.data_pins.Goals.{then-not-is_clock+in_ok-push, else-not-is_clock}

pub loop-index-init : goal.loop-index-init
loop-index-init c =
    let none : pointed c.new-pins.result.items ≡ [] = ap pointed c.new-pins.ensures.items in
    let n = c.args.self.now in
    ap (λ (ps : List PinUse). ps ++ data_pins_from n.clock_pin 0 c.as_slice-pin-items.result.now) none
    ∙ (ap (λ (ps : List PinUse). data_pins_from n.clock_pin 0 ps) c.as_slice-pin-items.ensures ∙ sym (data_pins-from n))

pub loop-index-preserved : goal.loop-index-preserved
loop-index-preserved c =
    let pins = c.as_slice-pin-items.result.now in
    let i = c.loop-index.index in
    let clock = c.args.self.now.clock_pin in
    let pin = c.pin-item.result in
    elim c.if-not-is_clock.branch [
      | then-not-is_clock+in_ok-push w ↦
          let step : data_pins_from clock i (drop i pins) ≡ pin ∷ data_pins_from clock (i + 1) (drop (i + 1) pins) = data_pins-more clock pins i pin false c.loop-index-test.true c.pin-item.is w.if-not-is_clock.ensures in
          grind (arith, common_steps)
      | else-not-is_clock w ↦
          let step : data_pins_from clock i (drop i pins) ≡ data_pins_from clock (i + 1) (drop (i + 1) pins) = data_pins-more clock pins i pin true c.loop-index-test.true c.pin-item.is w.if-not-is_clock.ensures in
          grind (arith, common_steps)
    ]
