use Rattle.std.proofs.Common.{◌+◌, ◌++◌, List, ℕ, ap, ◌∙◌}
use Rattle.lg_vrows.specs.Steps.{lines}
use Rattle.lg_vrows.specs.Text.{heading_text, row_text}
use Rattle.lg_vrows.proofs.TextLemmas.{table_more, table_end}
use Rattle.lg_vrows.proofs.text.print.Goals as goal

pub loop-at-preserved : goal.loop-at-preserved
loop-at-preserved c =
    let ports = lines c.args.ports.now in
    let at = c.loop-at.at in
    let out : List ℕ = c.index-outs-at.result in
    table_more ports c.args.outs.now at out c.loop-at-test.true c.index-outs-at.is (heading_text ports) c.loop-at.text.items c.put_row.new.text.items c.loop-at.invariant
    (c.in_ok-put_row.ensures ∙ ap (λ (some : List ℕ). c.loop-at.text.items ++ row_text ports (at + 1, some)) c.as_slice.ensures)

pub returns : goal.returns
returns c =
    let ports = lines c.args.ports.now in
    table_end ports c.args.outs.now c.loop-at.at c.loop-at-test.false (heading_text ports) c.loop-at.text.items c.loop-at.invariant
