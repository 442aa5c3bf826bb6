-- As many pins as different ones among those of the records.
use Rattle.std.proofs.Common.{◌≡◌, ◌∙◌, sym, ap, is_some, arith}
use Rattle.std.specs.Set.{distinct_count}
use Rattle.std.specs.Str.{bytes_eq}
use Rattle.lg_kinds.specs.PortTable.{pins_of}
use Rattle.lg_kinds.proofs.LatestLemmas.{pin_there}
use Rattle.lg_kinds.proofs.port_table.PortTable.sheet_rows.Goals as goal

pub returns-in-Ok : goal.returns-in-Ok
returns-in-Ok c =
    let records = c.args.self.now.records in
    let sheet = c.args.sheet.now in
    let counted : c.count.result ≡ distinct_count bytes_eq (pins_of records sheet) = c.count.ensures (pins_of records sheet) (λ q. pin_there records sheet q ∙ ap is_some (sym (c.args.self.now.known.pins sheet q))) in
    omega (arith, counted, c.in-Ok.ensures)

pub returns-in-Err : goal.returns-in-Err
returns-in-Err c =
    let records = c.args.self.now.records in
    let sheet = c.args.sheet.now in
    let counted : c.count.result ≡ distinct_count bytes_eq (pins_of records sheet) = c.count.ensures (pins_of records sheet) (λ q. pin_there records sheet q ∙ ap is_some (sym (c.args.self.now.known.pins sheet q))) in
    omega (arith, counted, c.in-Err.ensures)
