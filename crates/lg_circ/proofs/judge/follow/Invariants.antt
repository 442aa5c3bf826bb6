use Rattle.std.proofs.Common.{◌≡◌, length, []}
use denote.Text.{Utf8}
use denote.Shadow.{shadow}
use Rattle.lg_circ.specs.declared.element.Element.{Element}
use Rattle.lg_circ.specs.Tree.{name_of}
use Rattle.lg_circ.specs.Seen.{view_names}
use Rattle.lg_circ.specs.Grown.{Completes}
use Rattle.lg_circ.proofs.Names.{Follows}
use Rattle.lg_circ.proofs.judge.follow.Given as goal

abbrev pub invariant-steps : goal.invariant-steps
invariant-steps l = shadow (Utf8 l.rest) × ((top : Element) → name_of top ≡ l.name → Follows (Completes top [] l.inside) (view_names l.names.items) l.rest)

abbrev pub decreases-steps : goal.decreases-steps
decreases-steps l = length l.rest
