use Rattle.std.proofs.Common.{◌≡◌, ℕ, ◌+◌, List, ◌∷◌, [], ◌++◌, sym, ap, subst, ◌∙◌}
use Rattle.lg_vmeaning.specs.Compiled.{IsStep}
use Rattle.lg_vmeaning.proofs.RowLemmas.{Completes, one_row_more, no_row_left}
use Rattle.lg_vmeaning.proofs.valid_module.Valid.run_rows.Goals as goal

pub loop-row-preserved : goal.loop-row-preserved
loop-row-preserved c =
    let m = c.args.self.now in
    let outputs = c.in_ok-step.field-0.items in
    let is_step : IsStep m c.loop-row.regs c.as_slice.result.now outputs c.step.new.regs = c.in_ok-step.ensures in
    let grown : c.push.new.self.items ≡ c.loop-row.outs.items ++ outputs ∷ [] = c.in_ok-push.ensures.items ∙ ap (λ (one : List ℕ). c.loop-row.outs.items ++ one ∷ []) c.from_vec.ensures in
    let more = one_row_more m c.args.rows.now c.loop-row.row-index c.loop-row.regs c.step.new.regs c.as_slice.result.now c.row-item.result outputs c.loop-row.outs.items c.loop-row-test.true (c.as_slice.ensures ∙ c.row-item.is) is_step c.loop-row.invariant.1 in
    (is_step.fits, subst (Completes m c.args.rows.now (c.loop-row.row-index + 1) c.step.new.regs) (sym grown) more)

pub returns : goal.returns
returns c = no_row_left c.args.self.now c.args.rows.now c.loop-row.row-index c.loop-row.regs c.loop-row.outs.items c.loop-row-test.false c.loop-row.invariant.1
