-- A wire's name is a name of the subset.
use Rattle.std.proofs.Common.{◌∙◌, ap, refl}
use Rattle.lg_vtree.specs.Token.{is_name}
use Rattle.lg_export.proofs.NameLemmas.{is_name-wire}
use Rattle.lg_export.proofs.names.input_wire.Goals as goal

pub new-requires : goal.new-requires
new-requires c = ap is_name (c.from_string.ensures ∙ c.in_ok-format.ensures.ok) ∙ is_name-wire 120 c.args.part c.args.input refl c.ranges.part.fits c.ranges.input.fits
