use Rattle.std.proofs.Common.{sym, None, lit<}
use Rattle.std.proofs.lemmas.Str.Pattern.{strip_prefix_char}
use Rattle.lg_circ.proofs.Numbers.{no_point}
use Rattle.lg_circ.proofs.point.point.Goals as goal

pub returns-in-None : goal.returns-in-None
returns-in-None c = sym (no_point c.args.text.now (strip_prefix_char 40 c.args.text.now None c.in-None.ensures.cases (lit< tt)))
