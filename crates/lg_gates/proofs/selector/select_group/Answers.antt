use Rattle.std.proofs.Common.{◌≡◌, ℕ, ◌*◌, ◌-◌, ◌^◌, min, sym, ap, ◌∙◌}
use Rattle.lg_value.specs.Word.{number_of}
use Rattle.lg_gates.proofs.DefinedLemmas.{all_defined-answer}
use Rattle.lg_gates.proofs.PlexerLemmas.{group_word-undefined, group_word-defined}
use Rattle.lg_gates.proofs.SelectorLemmas.{bits_from_cut_off}
use Rattle.lg_gates.proofs.selector.select_group.Goals as goal

pub returns-else-defined-clause-word : goal.returns-else-defined-clause-word
returns-else-defined-clause-word c =
    let e = all_defined-answer c.args.select.now c.defined.result c.defined.ensures in
    c.fill.ensures.bits ∙ sym (group_word-undefined c.args.input.now c.args.select.now c.args.group (sym e ∙ c.if-defined.false))

pub returns-then-defined-clause-word : goal.returns-then-defined-clause-word
returns-then-defined-clause-word c =
    let e = all_defined-answer c.args.select.now c.defined.result c.defined.ensures in
    let start : number_of c.args.select.now * c.args.group ≡ c.number.result * c.from.result = cc in
    c.bits_from.ensures.bits
    ∙ bits_from_cut_off c.args.input.now (number_of c.args.select.now * c.args.group) c.saturating_mul-start.result c.args.group c.bits_from.ensures.short (c.saturating_mul-start.ensures ∙ ap (λ (n : ℕ). min n (2 ^ 64 - 1)) (sym start))
    ∙ sym (group_word-defined c.args.input.now c.args.select.now c.args.group (sym e ∙ c.if-defined.true))
