use Rattle.std.proofs.Common.{◌≡◌, None, Some, get_or, length, arith, sym, ◌∙◌}
use Rattle.std.proofs.lemmas.List.{get_or_read}
use Rattle.lg_value.specs.declared.bit.Bit.TheVariants.{Zero}
use Rattle.lg_value.specs.Bit.{or_bits}
use Rattle.lg_gates.proofs.GateLemmas.{seen}
use Rattle.lg_gates.proofs.FoldLemmas.{folded_start, folded_none, folded_some, folded_all, fold_or}
use Rattle.lg_gates.proofs.gates.or.Goals as goal
use Rattle.lg_gates.proofs.gates.or.Goals.{in-Some, in_default}

pub loop-input-init : goal.loop-input-init
loop-input-init c = folded_start or_bits Zero c.args.width c.fill-word.result c.fill-word.ensures.bits

pub loop-input-preserved : goal.loop-input-preserved
loop-input-preserved c =
    let inputs = c.args.inputs.now in
    let l = c.loop-input in
    let i = l.input-index in
    let inside = c.loop-input-test.true in
    let item : get_or inputs i None ≡ c.input-item.result = sym (get_or_read inputs i c.input-item.result inside c.input-item.is None) in
    elim c.match-input.branch [
      | in-Some w ↦
          let input = w.in-Some.input in
          let is : get_or inputs i None ≡ Some input = item ∙ w.in-Some.is in
          let wide : length input ≡ c.args.width = rw is at (c.requires.widths i None inside) in
          rw w.word-is (folded_some inputs i input w.or-word.result inside is wide w.or-word.ensures.bits l.invariant)
      | in_default w ↦ rw w.word-is (folded_none inputs i inside (item ∙ w.in_default.is) l.invariant)
    ]

pub returns-clause-bits : goal.returns-clause-bits
returns-clause-bits c = λ k inside.
    (folded_all c.args.inputs.now c.loop-input.input-index (omega arith) c.loop-input.invariant).bits k inside ∙ fold_or (seen k c.args.inputs.now)

pub returns-clause-width : goal.returns-clause-width
returns-clause-width c = c.loop-input.invariant.wide
