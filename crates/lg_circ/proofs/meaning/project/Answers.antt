use Rattle.std.proofs.Common.{◌∙◌, ap, List, ℕ}
use Rattle.std.specs.Prelude.{codes}
use Rattle.lg_attrs.specs.Pairs.{value_under}
use Rattle.lg_circ.specs.Meaning.{is_error, limit_of}
use Rattle.lg_circ.proofs.Evidence.{project_says}
use Rattle.lg_circ.proofs.meaning.project.Goals as goal

pub returns : goal.returns
returns c =
    project_says c.args.root.now c.in_ok-libs.libs c.in_ok-options.options c.in_ok-sheets.sheets c.in_ok-main.main c.is_strict.result c.limit.result _ c.in_ok-libs.ensures c.in_ok-options.ensures c.in_ok-sheets.ensures c.in_ok-main.ensures
    (c.is_strict.ensures ∙ ap (λ (o : List (List ℕ × List ℕ)). is_error (value_under (codes "gateUndefined") o)) c.as_slice.ensures) (c.limit.ensures ∙ ap (λ (o : List (List ℕ × List ℕ)). (limit_of (value_under (codes "simlimit") o)).0) c.as_slice-2.ensures)
