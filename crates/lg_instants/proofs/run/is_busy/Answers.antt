use Rattle.std.proofs.Common.{[], sym, ap, ◌∙◌, arith}
use Rattle.std.specs.Prelude.{slice_index_or}
use Rattle.lg_instants.proofs.Busy.{busy-here, none-more, none-all}
use Rattle.lg_instants.proofs.run.is_busy.Goals as goal

pub returns-then-ne : goal.returns-then-ne
returns-then-ne g c =
    let was = c.words_of.ensures ∙ ap (λ l. slice_index_or l c.loop-i.i []) c.shown.ensures in
    let is = c.words_of-in-loop-i.ensures ∙ ap (λ l. slice_index_or l c.loop-i.i []) c.shown-in-loop-i.ensures in
    sym (busy-here g.P.Behaviour.meaning c.args.circuit.now c.args.before.now c.args.now.now c.loop-i.i c.words_of.result.now c.words_of-in-loop-i.result.now (omega arith) was is (sym c.ne.ensures ∙ c.if-ne.true))

pub loop-i-preserved : goal.loop-i-preserved
loop-i-preserved g c =
    let was = c.words_of.ensures ∙ ap (λ l. slice_index_or l c.loop-i.i []) c.shown.ensures in
    let is = c.words_of-in-loop-i.ensures ∙ ap (λ l. slice_index_or l c.loop-i.i []) c.shown-in-loop-i.ensures in
    none-more g.P.Behaviour.meaning c.args.circuit.now c.args.before.now c.args.now.now c.loop-i.i c.words_of.result.now c.words_of-in-loop-i.result.now (omega arith) was is (sym c.ne.ensures ∙ c.if-ne.false) c.loop-i.invariant

pub returns : goal.returns
returns g c = sym (none-all g.P.Behaviour.meaning c.args.circuit.now c.args.before.now c.args.now.now c.loop-i.i (omega arith) c.loop-i.invariant)
