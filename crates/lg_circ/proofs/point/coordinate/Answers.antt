use Rattle.std.proofs.Common.{sym, ◌∙◌, None, lit<}
use Rattle.std.proofs.lemmas.Str.Pattern.{strip_prefix_char}
use Rattle.lg_circ.proofs.Numbers.{no_sign}
use Rattle.lg_circ.proofs.point.coordinate.Goals as goal

pub returns-in_err-size-in-None : goal.returns-in_err-size-in-None
returns-in_err-size-in-None c =
    c.from_residual-in_err-size-in-None.ensures
    ∙ sym (no_sign c.args.text.now (strip_prefix_char 45 c.args.text.now None c.in-None.ensures.cases (lit< tt)) (sym c.in_err-size-in-None.ensures.value))
