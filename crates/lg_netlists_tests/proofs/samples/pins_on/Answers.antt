-- One fitting pin more, with the next name.
use Rattle.std.proofs.Common.{◌≡◌, ◌∷◌, ◌++◌, [], List, ℕ, take, sym, ap, ◌∙◌}
use Rattle.std.proofs.lemmas.List.{take_more, map-append}
use Rattle.std.proofs.lemmas.List.Elements.{All-push}
use Rattle.lg_netlist.specs.declared.netlist.PinUse.{PinUse}
use Rattle.lg_netlist.specs.Valid.{IsFittingPin}
use Rattle.lg_netlists_tests.proofs.samples.pins_on.Goals as goal

pub loop-name-preserved : goal.loop-name-preserved
loop-name-preserved g c =
    let pin = c.in_ok-pin.field-0 in
    let names = c.as_slice-name-items.result.now in
    let next : pin.name ≡ c.name-item.result = c.in_ok-pin.ensures.name in
    let grown = take_more names c.loop-name.name-index c.name-item.result c.loop-name-test.true in
    record {
      fit = rw c.in_ok-push-2.ensures.ok (All-push (IsFittingPin 8) c.loop-name.found pin c.loop-name.invariant.fit c.in_ok-pin.ensures.fit);
      named = rw c.in_ok-push-2.ensures.ok
          (map-append (λ (p : PinUse). p.name) c.loop-name.found (pin ∷ [])
          ∙ (ap (λ (ns : List (List ℕ)). ns ++ pin.name ∷ []) c.loop-name.invariant.named ∙ (ap (λ (n : List ℕ). take c.loop-name.name-index names ++ n ∷ []) (next ∙ c.name-item.is) ∙ sym grown)));
    }
