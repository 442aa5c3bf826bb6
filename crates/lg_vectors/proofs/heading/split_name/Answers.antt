use Rattle.std.proofs.Common.{sym, ◌∙◌}
use Rattle.lg_vectors.proofs.HeadingLemmas.{name_alone, name_before, no_width}
use Rattle.lg_vectors.proofs.heading.split_name.Goals as goal

pub returns-in_err-width-in-Some : goal.returns-in_err-width-in-Some
returns-in_err-width-in-Some c = rw c.from_residual.ensures (no_width c.args.word.now c.in-Some.open (sym c.place_of.ensures ∙ c.in-Some.is) c.in_err-width-in-Some.ensures)

pub returns-in_ok-width-in-Some : goal.returns-in_ok-width-in-Some
returns-in_ok-width-in-Some c = name_before c.args.word.now c.in-Some.open c.in_ok-width-in-Some.width (sym c.place_of.ensures ∙ c.in-Some.is) c.in_ok-width-in-Some.ensures

pub returns-in-None : goal.returns-in-None
returns-in-None c = name_alone c.args.word.now (sym c.place_of.ensures ∙ c.in-None.is)
