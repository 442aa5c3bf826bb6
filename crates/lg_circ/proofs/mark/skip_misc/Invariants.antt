use Rattle.std.proofs.Common.{length}
use denote.Text.{Utf8}
use denote.Shadow.{shadow}
use Rattle.lg_circ.proofs.Loops.{ReadsMisc}
use Rattle.lg_circ.proofs.mark.skip_misc.Given as goal

abbrev pub invariant-comments : goal.invariant-comments
invariant-comments l = shadow (Utf8 l.rest) × ReadsMisc l.text l.rest

abbrev pub decreases-comments : goal.decreases-comments
decreases-comments l = length l.rest
