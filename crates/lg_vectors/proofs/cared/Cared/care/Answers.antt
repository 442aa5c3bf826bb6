use Rattle.lg_vectors.proofs.CaredLemmas.{IsCared-kept}
use Rattle.lg_vectors.proofs.cared.Cared.care.Goals as goal

pub returns-clause-cared : goal.returns-clause-cared
returns-clause-cared c =
    let inside = c.self.inside in
    rw c.from_number.ensures.width (IsCared-kept inside.width inside.bits inside.care c.args.self.now c.self.view_is c.self.invariant)
