use Rattle.std.proofs.Common.{◌∙◌, ap}
use denote.Bor.{Bor}
use Rattle.lg_kinds.specs.declared.rows.AttributeRow.{AttributeRow}
use Rattle.lg_ports.specs.Given.{seen_given, value_of, row_of}
use Rattle.lg_kinds.specs.Rows.{Attribute, seen_attribute, name_at}
use Rattle.lg_ports.proofs.RowLemmas.{follows_found}
use Rattle.lg_ports.proofs.given.Given.numbered_value.Goals as goal

pub returns-in-Some : goal.returns-in-Some
returns-in-Some c =
    let given = seen_given c.args.self.now in
    c.value_of.ensures ∙ ap (value_of given (seen_attribute c.in-Some.row.now)) (c.as_str.ensures ∙ c.in_ok-own.ensures) ∙ follows_found (λ (r : Bor AttributeRow). seen_attribute r.now) (λ (row : Attribute). value_of given row (name_at c.args.name.now c.args.count c.args.k)) c.row_of.result (row_of given.kind c.args.name.now) c.in-Some.row c.row_of.ensures c.in-Some.is
