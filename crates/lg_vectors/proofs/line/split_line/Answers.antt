use Rattle.std.proofs.Common.{sym, ◌∙◌}
use Rattle.lg_vectors.proofs.LineLemmas.{first_line, last_line}
use Rattle.lg_vectors.proofs.line.split_line.Goals as goal

pub returns-in-Some-clause-lines : goal.returns-in-Some-clause-lines
returns-in-Some-clause-lines c = first_line c.args.bytes.now c.without_return.result.now c.in-Some.end (sym c.place_of.ensures ∙ c.in-Some.is) c.without_return.ensures

pub returns-in-None-clause-lines : goal.returns-in-None-clause-lines
returns-in-None-clause-lines c = last_line c.args.bytes.now c.requires (sym c.place_of.ensures ∙ c.in-None.is)
