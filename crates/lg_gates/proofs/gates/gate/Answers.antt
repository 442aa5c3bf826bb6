use Rattle.std.proofs.Common.{inl, inr, refl, sym, ap, ◌∙◌}
use Rattle.lg_gates.specs.declared.gates.GateKind.TheVariants.{And, Or, Nand, Nor, XorOne, XorOdd, XnorOne, XnorOdd, OddParity, EvenParity}
use Rattle.lg_gates.specs.Shape.{not_word}
use Rattle.lg_gates.proofs.GateLemmas.{gate_word-lacking, gate_word-filled}
use Rattle.lg_gates.proofs.GateLaws.{gate_word-inverted}
use Rattle.lg_gates.proofs.gates.gate.Goals as goal

pub returns-then-lacks_inputs-clause-word : goal.returns-then-lacks_inputs-clause-word
returns-then-lacks_inputs-clause-word c =
    c.fill.ensures.bits ∙ sym (gate_word-lacking c.args.kind c.args.width c.args.inputs.now c.args.strict (sym c.lacks_inputs.ensures ∙ c.if-lacks_inputs.true))

pub returns-in-And-clause-word : goal.returns-in-And-clause-word
returns-in-And-clause-word c =
    rw c.in-And.is (gate_word-filled And c.args.width c.args.inputs.now c.args.strict c.and.result (sym c.lacks_inputs.ensures ∙ c.if-lacks_inputs.false) c.and.ensures.width c.and.ensures.bits)

pub returns-in-Nand-clause-word : goal.returns-in-Nand-clause-word
returns-in-Nand-clause-word c =
    rw c.in-Nand.is (c.not.ensures.word ∙ ap not_word (gate_word-filled And c.args.width c.args.inputs.now c.args.strict c.and-in-Nand.result (sym c.lacks_inputs.ensures ∙ c.if-lacks_inputs.false) c.and-in-Nand.ensures.width c.and-in-Nand.ensures.bits) ∙ sym (gate_word-inverted Nand And (λ _. refl) c.args.width c.args.inputs.now c.args.strict))

pub returns-in-Or-clause-word : goal.returns-in-Or-clause-word
returns-in-Or-clause-word c =
    rw c.in-Or.is (gate_word-filled Or c.args.width c.args.inputs.now c.args.strict c.or.result (sym c.lacks_inputs.ensures ∙ c.if-lacks_inputs.false) c.or.ensures.width c.or.ensures.bits)

pub returns-in-Nor-clause-word : goal.returns-in-Nor-clause-word
returns-in-Nor-clause-word c =
    rw c.in-Nor.is (c.not-in-Nor.ensures.word ∙ ap not_word (gate_word-filled Or c.args.width c.args.inputs.now c.args.strict c.or-in-Nor.result (sym c.lacks_inputs.ensures ∙ c.if-lacks_inputs.false) c.or-in-Nor.ensures.width c.or-in-Nor.ensures.bits) ∙ sym (gate_word-inverted Nor Or (λ _. refl) c.args.width c.args.inputs.now c.args.strict))

pub returns-in-XorOne-clause-word : goal.returns-in-XorOne-clause-word
returns-in-XorOne-clause-word c =
    rw c.in-XorOne.is (gate_word-filled XorOne c.args.width c.args.inputs.now c.args.strict c.exactly_one.result (sym c.lacks_inputs.ensures ∙ c.if-lacks_inputs.false) c.exactly_one.ensures.width c.exactly_one.ensures.bits)

pub returns-in-XnorOne-clause-word : goal.returns-in-XnorOne-clause-word
returns-in-XnorOne-clause-word c =
    rw c.in-XnorOne.is (c.not-in-XnorOne.ensures.word ∙ ap not_word (gate_word-filled XorOne c.args.width c.args.inputs.now c.args.strict c.exactly_one-in-XnorOne.result (sym c.lacks_inputs.ensures ∙ c.if-lacks_inputs.false) c.exactly_one-in-XnorOne.ensures.width c.exactly_one-in-XnorOne.ensures.bits) ∙ sym (gate_word-inverted XnorOne XorOne (λ _. refl) c.args.width c.args.inputs.now c.args.strict))

pub returns-in-XorOdd-clause-word : goal.returns-in-XorOdd-clause-word
returns-in-XorOdd-clause-word c =
    elim c.in-XorOdd.is [
      | inl e ↦ rw e (gate_word-filled XorOdd c.args.width c.args.inputs.now c.args.strict c.odd.result (sym c.lacks_inputs.ensures ∙ c.if-lacks_inputs.false) c.odd.ensures.width c.odd.ensures.bits)
      | inr e ↦ rw e (gate_word-filled OddParity c.args.width c.args.inputs.now c.args.strict c.odd.result (sym c.lacks_inputs.ensures ∙ c.if-lacks_inputs.false) c.odd.ensures.width c.odd.ensures.bits)
    ]

pub returns-in-XnorOdd-clause-word : goal.returns-in-XnorOdd-clause-word
returns-in-XnorOdd-clause-word c =
    elim c.in-XnorOdd.is [
      | inl e ↦ rw e (c.not-in-XnorOdd.ensures.word ∙ ap not_word (gate_word-filled XorOdd c.args.width c.args.inputs.now c.args.strict c.odd-in-XnorOdd.result (sym c.lacks_inputs.ensures ∙ c.if-lacks_inputs.false) c.odd-in-XnorOdd.ensures.width c.odd-in-XnorOdd.ensures.bits) ∙ sym (gate_word-inverted XnorOdd XorOdd (λ _. refl) c.args.width c.args.inputs.now c.args.strict))
      | inr e ↦ rw e (c.not-in-XnorOdd.ensures.word ∙ ap not_word (gate_word-filled OddParity c.args.width c.args.inputs.now c.args.strict c.odd-in-XnorOdd.result (sym c.lacks_inputs.ensures ∙ c.if-lacks_inputs.false) c.odd-in-XnorOdd.ensures.width c.odd-in-XnorOdd.ensures.bits) ∙ sym (gate_word-inverted EvenParity OddParity (λ _. refl) c.args.width c.args.inputs.now c.args.strict))
    ]
