use Rattle.std.proofs.Common.{ℕ, arith, sym, ap, ◌∙◌}
use Rattle.std.specs.Prelude.{replicate}
use Rattle.lg_value.specs.declared.bit.Bit.TheVariants.{Error}
use Rattle.lg_gates.proofs.DefinedLemmas.{all_defined-answer}
use Rattle.lg_gates.proofs.PlexerLemmas.{spread_word-undefined, spread_word-selected, spread_word-other}
use Rattle.lg_gates.proofs.plexers.spread.Goals as goal

pub returns-then-not-defined-clause-word : goal.returns-then-not-defined-clause-word
returns-then-not-defined-clause-word c =
    let e = all_defined-answer c.args.select.now c.defined.result c.defined.ensures in
    c.fill.ensures.bits ∙ ap (λ (n : ℕ). replicate n Error) c.width.ensures.length
    ∙ sym (spread_word-undefined c.args.select.now c.args.input.now c.args.place c.args.off (sym e ∙ c.if-not-defined.true))

pub returns-then-number-from-clause-word : goal.returns-then-number-from-clause-word
returns-then-number-from-clause-word c =
    let e = all_defined-answer c.args.select.now c.defined.result c.defined.ensures in
    sym (spread_word-selected c.args.select.now c.args.input.now c.args.place c.args.off (sym e ∙ c.if-not-defined.false) (omega arith))

pub returns-else-number-from-clause-word : goal.returns-else-number-from-clause-word
returns-else-number-from-clause-word c =
    let e = all_defined-answer c.args.select.now c.defined.result c.defined.ensures in
    c.fill-else-number-from.ensures.bits ∙ ap (λ (n : ℕ). replicate n c.args.off) c.width-else-number-from.ensures.length
    ∙ sym (spread_word-other c.args.select.now c.args.input.now c.args.place c.args.off (sym e ∙ c.if-not-defined.false) (λ h. c.if-number-from.false (omega arith)))
