use Rattle.std.proofs.Common.{refl}
use Rattle.lg_vprint.proofs.Pieces.{three_pieces}
use Rattle.lg_vprint.proofs.printing.put_init.Goals as goal

pub returns-in_ok-put_starts-in-Some-clause-text : goal.returns-in_ok-put_starts-in-Some-clause-text
returns-in_ok-put_starts-in-Some-clause-text c =
    rw c.in-Some.is (three_pieces c.put-in-Some.result _ _ _ _ _ _ _ _ c.in_ok-put-in-Some.ensures c.in_ok-put_starts-in-Some.ensures.text c.put-in-Some.ensures refl)
