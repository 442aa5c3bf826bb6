-- One input more, which is attached or is not.
use Rattle.std.proofs.Common.{◌≡◌, ◌+◌, ◌∷◌, drop, false, true, arith}
use Rattle.std.proofs.lemmas.Grind.{common_steps}
use Rattle.lg_export.proofs.LayoutLemmas.{attached_from, attached-more}
use Rattle.lg_export.proofs.parts.put_assigns.Goals as goal
use Rattle.lg_export.proofs.parts.put_assigns.Goals.{then-not-is_empty+in_ok-name+in_ok-value+in_ok-push+in_ok-input_wire+in_ok-push-2, else-not-is_empty}

pub loop-input-preserved : goal.loop-input-preserved
loop-input-preserved c =
    let inputs = c.as_slice-bits-items.result.now in
    let i = c.loop-input.input in
    let bits = c.bits-item.result in
    elim c.if-not-is_empty.branch [
      | then-not-is_empty+in_ok-name+in_ok-value+in_ok-push+in_ok-input_wire+in_ok-push-2 w ↦
          let step : attached_from i (drop i inputs) ≡ (i, bits) ∷ attached_from (i + 1) (drop (i + 1) inputs) = attached-more inputs i bits false c.loop-input-test.true c.bits-item.is w.if-not-is_empty.ensures in
          record { equations = grind (arith, common_steps); wires = grind (arith, common_steps) }
      | else-not-is_empty w ↦
          let step : attached_from i (drop i inputs) ≡ attached_from (i + 1) (drop (i + 1) inputs) = attached-more inputs i bits true c.loop-input-test.true c.bits-item.is w.if-not-is_empty.ensures in
          record { equations = grind (arith, common_steps); wires = grind (arith, common_steps) }
    ]
