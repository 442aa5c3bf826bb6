use Rattle.std.proofs.Common.{length, []}
use denote.Text.{Utf8}
use denote.Shadow.{shadow}
use Rattle.lg_circ.specs.Seen.{around_of}
use Rattle.lg_circ.specs.Grown.{Completes}
use Rattle.lg_circ.proofs.Growing.{Grows}
use Rattle.lg_circ.proofs.tree.grow.Given as goal

abbrev pub invariant-steps : goal.invariant-steps
invariant-steps l = shadow (Utf8 l.rest) × Grows (Completes l.fn.root [] l.inside) l.stack.top (around_of l.stack) l.rest

abbrev pub decreases-steps : goal.decreases-steps
decreases-steps l = length l.rest
