use Rattle.std.proofs.Common.{refl}
use Rattle.lg_vectors.proofs.BitLemmas.{word_of_not, apart_is_zero}
use Rattle.lg_vectors.proofs.cared.Cared.but.Goals as goal

pub invariant_of-result : goal.invariant_of-result
invariant_of-result c = record {
  in_range = c.requires.width;
  rest_is_zero = rw (word_of_not c.args.width c.args.free c.requires.width.1 c.ranges.free.fits) (apart_is_zero c.args.width c.args.number c.args.free c.requires.apart);
}

pub returns : goal.returns
returns c = rw (word_of_not c.args.width c.args.free c.requires.width.1 c.ranges.free.fits) refl
