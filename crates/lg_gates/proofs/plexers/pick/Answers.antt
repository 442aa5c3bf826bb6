use Rattle.std.proofs.Common.{ℕ, [], get_or, length, arith, sym, ap, ◌∙◌}
use Rattle.std.proofs.lemmas.List.{get_or_read}
use Rattle.std.proofs.lemmas.Nat.{pow_pos}
use Rattle.lg_value.specs.declared.bit.Bit.TheVariants.{Error}
use Rattle.std.specs.Prelude.{replicate}
use Rattle.lg_gates.proofs.DefinedLemmas.{all_defined-answer}
use Rattle.lg_gates.proofs.PlexerLemmas.{pick_word-defined, pick_word-undefined, first_width-get_or}
use Rattle.lg_gates.proofs.plexers.pick.Goals as goal

pub returns-then-defined-clause-word : goal.returns-then-defined-clause-word
returns-then-defined-clause-word c =
    let items = c.args.items.now in
    let e = all_defined-answer c.args.select.now c.defined.result c.defined.ensures in
    get_or_read items c.number.result c.index-items-number.result (omega (arith, c.number.ensures.fits)) c.index-items-number.is []
    ∙ ap (λ (n : ℕ). get_or items n []) c.number.ensures.sum
    ∙ sym (pick_word-defined c.args.select.now items (sym e ∙ c.if-defined.true))

pub returns-else-defined-clause-word : goal.returns-else-defined-clause-word
returns-else-defined-clause-word c =
    let items = c.args.items.now in
    let e = all_defined-answer c.args.select.now c.defined.result c.defined.ensures in
    let first = get_or_read items 0 c.index-items-0.result (omega (arith, pow_pos (length c.args.select.now))) c.index-items-0.is [] in
    c.fill.ensures.bits
    ∙ ap (λ (n : ℕ). replicate n Error) (c.width.ensures.length ∙ ap length first ∙ sym (first_width-get_or items))
    ∙ sym (pick_word-undefined c.args.select.now items (sym e ∙ c.if-defined.false))
