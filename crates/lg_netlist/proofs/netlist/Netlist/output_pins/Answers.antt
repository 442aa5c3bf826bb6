-- What is retained of the pins is what the test keeps.
use Rattle.std.proofs.Common.{◌≡◌, ◌∙◌, ap, Bor, List, filter, rules, not}
use Rattle.std.proofs.lemmas.List.Elements.{filter_from_retain}
use Rattle.lg_netlist.specs.declared.netlist.PinUse.{PinUse}
use Rattle.lg_netlist.proofs.PinLemmas.{pointed, pointed-filter}
use Rattle.lg_netlist.proofs.netlist.Netlist.output_pins.Goals as goal

pub returns : goal.returns
returns c =
    let all = c.in_ok-pins.pins.items in
    let kept : c.retain.new.self.items ≡ filter (λ (p : Bor PinUse). not p.now.input) all =
    filter_from_retain _ (λ (p : Bor PinUse). not p.now.input) (λ f p b g h. search rules) _ all c.retain.new.self.items c.retain.ensures.filtered in
    ap pointed kept ∙ (pointed-filter (λ (p : PinUse). not p.input) all ∙ ap (λ (pins : List PinUse). filter (λ (p : PinUse). not p.input) pins) c.in_ok-pins.ensures)
