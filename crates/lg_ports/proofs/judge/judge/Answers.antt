use Rattle.std.proofs.Common.{ap, rules}
use Rattle.lg_ports.specs.Given.{seen_given}
use Rattle.lg_ports.specs.Judged.{RowFits, Refuses}
use Rattle.lg_kinds.specs.Rows.{seen_attribute, KindEntry}
use Rattle.lg_kinds.specs.Table.{entry}
use Rattle.lg_ports.proofs.JudgeLemmas.{rows_fit-more, rows_fit-all, refused_by}
use Rattle.lg_ports.proofs.judge.judge.Goals as goal

pub returns-in_err-judge_row-clause-refused : goal.returns-in_err-judge_row-clause-refused
returns-in_err-judge_row-clause-refused c =
    let refused : Refuses (seen_given c.args.given.now) c.in_err-judge_row.field-0.0 = refused_by (seen_given c.args.given.now) seen_attribute c.entry.result.now.attributes.now c.loop-row.row-index _ c.in_err-judge_row.field-0.0 c.loop-row-test.true (ap (λ (e : KindEntry). e.attributes) c.entry.ensures) c.loop-row.invariant c.in_err-judge_row.ensures.refused in
    search rules

pub loop-row-preserved : goal.loop-row-preserved
loop-row-preserved c =
    rows_fit-more (RowFits (seen_given c.args.given.now)) seen_attribute c.entry.result.now.attributes.now c.loop-row.row-index _ c.loop-row-test.true c.loop-row.invariant c.in_ok-judge_row.ensures.fit

pub returns-clause-fit : goal.returns-clause-fit
returns-clause-fit c =
    rows_fit-all (RowFits (seen_given c.args.given.now)) seen_attribute c.entry.result.now.attributes.now (entry c.args.given.now.kind).attributes c.loop-row.row-index c.loop-row-test.false (ap (λ (e : KindEntry). e.attributes) c.entry.ensures) c.loop-row.invariant
