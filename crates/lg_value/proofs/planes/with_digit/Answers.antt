use Rattle.lg_value.proofs.StorageLemmas.{digit_set, digit_set_below}
use Rattle.lg_value.proofs.planes.with_digit.Goals as goal

pub returns-clause-digits : goal.returns-clause-digits
returns-clause-digits c = λ i inside. digit_set c.args.plane c.args.place c.args.digit i c.requires.inside c.requires.binary inside

pub returns-clause-fits : goal.returns-clause-fits
returns-clause-fits c = λ width below small. digit_set_below c.args.plane c.args.place c.args.digit width c.requires.binary below small
