use Rattle.std.proofs.Common.{sym}
use Rattle.lg_vectors.proofs.CaredLemmas.{IsCared-kept}
use Rattle.lg_vectors.proofs.cared.Cared.width.Goals as goal

pub returns-clause-length : goal.returns-clause-length
returns-clause-length c =
    let inside = c.self.inside in
    sym (IsCared-kept inside.width inside.bits inside.care c.args.self.now c.self.view_is c.self.invariant).bits_width

pub returns-clause-cared : goal.returns-clause-cared
returns-clause-cared c =
    let inside = c.self.inside in
    IsCared-kept inside.width inside.bits inside.care c.args.self.now c.self.view_is c.self.invariant
