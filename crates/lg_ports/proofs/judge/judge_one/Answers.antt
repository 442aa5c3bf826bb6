use Rattle.std.proofs.Common.{◌∙◌, rules}
use Rattle.lg_ports.specs.Given.{seen_given}
use Rattle.lg_kinds.specs.Rows.{seen_attribute}
use Rattle.lg_ports.proofs.JudgeLemmas.{fits_without, fits_with}
use Rattle.lg_ports.proofs.judge.judge_one.Goals as goal

pub returns-in_default-clause-fit : goal.returns-in_default-clause-fit
returns-in_default-clause-fit c =
    fits_without (seen_given c.args.given.now) (seen_attribute c.args.row.now) c.args.k c.as_str.result.now c.value_of.result (c.as_str.ensures ∙ c.in_ok-name.ensures) c.value_of.ensures (search rules)

pub returns-then-is_in-clause-fit : goal.returns-then-is_in-clause-fit
returns-then-is_in-clause-fit c =
    fits_with (seen_given c.args.given.now) (seen_attribute c.args.row.now) c.args.k c.as_str.result.now c.value_of.result c.in-Some.text (c.as_str.ensures ∙ c.in_ok-name.ensures) c.value_of.ensures c.in-Some.is (c.is_in.ensures.0 c.if-is_in.true)
