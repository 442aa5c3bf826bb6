use Rattle.std.proofs.lemmas.Result.{err_from_is_err_and}
use Rattle.lg_circ.proofs.Whole.{no_tree, tree_says}
use Rattle.lg_circ.proofs.read.said_by.Goals as goal

pub returns-in_err-root : goal.returns-in_err-root
returns-in_err-root c =
    let p = err_from_is_err_and c.from_residual.result c.from_residual.ensures.1 in
    rw (p.1, p.2) (no_tree c.args.text.now c.in_err-root.field-0.0 c.in_err-root.ensures)

pub returns : goal.returns
returns c = tree_says c.args.text.now c.in_ok-root.root c.project.result c.in_ok-root.ensures c.project.ensures
