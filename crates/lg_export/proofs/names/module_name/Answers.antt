-- A circuit's name after `c_` is a name of the subset.
use Rattle.std.proofs.Common.{◌≡◌, ◌++◌, ◌∙◌, ap, rules}
use Rattle.std.specs.Prelude.{codes}
use Rattle.lg_names.specs.Names.{name_of_label}
use Rattle.lg_vtree.specs.Token.{is_name}
use Rattle.lg_export.proofs.NameLemmas.{is_name-circuit}
use Rattle.lg_export.proofs.names.module_name.Goals as goal

pub new-requires : goal.new-requires
new-requires c =
    let spelled : c.in_ok-prefixed.field-0 ≡ codes "c_" ++ name_of_label c.args.circuit.now = search rules in
    ap is_name spelled ∙ is_name-circuit c.args.circuit.now
