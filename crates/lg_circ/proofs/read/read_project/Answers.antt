use Rattle.std.proofs.Common.{ℕ, List, subst, arith}
use Rattle.lg_circ.specs.Grown.{IsProjectOf}
use Rattle.lg_circ.proofs.Whole.{is_found, is_few, is_only, is_deep, is_none, deep_is_refused, none_is_refused}
use Rattle.lg_circ.proofs.read.read_project.Goals as goal

pub returns-in-Ok-clause-found : goal.returns-in-Ok-clause-found
returns-in-Ok-clause-found c =
    let given = subst (λ (t : List ℕ). IsProjectOf t c.said_by.result) c.in-Ok.ensures.cases.0 c.said_by.ensures in
    is_found c.args.bytes.now c.said_by.result given

pub returns-in-Ok-clause-few : goal.returns-in-Ok-clause-few
returns-in-Ok-clause-few c =
    let given = subst (λ (t : List ℕ). IsProjectOf t c.said_by.result) c.in-Ok.ensures.cases.0 c.said_by.ensures in
    is_few c.args.bytes.now c.said_by.result given

pub returns-in-Ok-clause-only : goal.returns-in-Ok-clause-only
returns-in-Ok-clause-only c =
    let given = subst (λ (t : List ℕ). IsProjectOf t c.said_by.result) c.in-Ok.ensures.cases.0 c.said_by.ensures in
    λ p is le. is_only c.args.bytes.now c.said_by.result given p is

pub returns-in-Ok-clause-too_deep : goal.returns-in-Ok-clause-too_deep
returns-in-Ok-clause-too_deep c =
    let given = subst (λ (t : List ℕ). IsProjectOf t c.said_by.result) c.in-Ok.ensures.cases.0 c.said_by.ensures in
    λ e. (omega (arith, c.if-bytes-gt-GREATEST_LENGTH.false), is_deep c.args.bytes.now c.said_by.result given e)

pub returns-in-Ok-clause-deep_refused : goal.returns-in-Ok-clause-deep_refused
returns-in-Ok-clause-deep_refused c =
    let given = subst (λ (t : List ℕ). IsProjectOf t c.said_by.result) c.in-Ok.ensures.cases.0 c.said_by.ensures in
    λ d le. deep_is_refused c.args.bytes.now c.said_by.result given d

pub returns-in-Ok-clause-not_project : goal.returns-in-Ok-clause-not_project
returns-in-Ok-clause-not_project c =
    let given = subst (λ (t : List ℕ). IsProjectOf t c.said_by.result) c.in-Ok.ensures.cases.0 c.said_by.ensures in
    λ e. (omega (arith, c.if-bytes-gt-GREATEST_LENGTH.false), is_none c.args.bytes.now c.said_by.result given e)

pub returns-in-Ok-clause-others_refused : goal.returns-in-Ok-clause-others_refused
returns-in-Ok-clause-others_refused c =
    let given = subst (λ (t : List ℕ). IsProjectOf t c.said_by.result) c.in-Ok.ensures.cases.0 c.said_by.ensures in
    λ d le. none_is_refused c.args.bytes.now c.said_by.result given d
