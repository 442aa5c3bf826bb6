use Rattle.std.proofs.Common.{◌≡◌, ◌∙◌, sym, ap, Some, None}
use Rattle.std.specs.Option.{option_copied}
use Rattle.lg_kinds.specs.Latest.{last_place}
use Rattle.lg_kinds.specs.PortTable.{circuit_in}
use Rattle.lg_kinds.proofs.LastLemmas.{looked_up}
use Rattle.lg_kinds.proofs.port_table.PortTable.last_sheet_row.Goals as goal

pub returns-in-Some : goal.returns-in-Some
returns-in-Some c =
    let records = c.args.self.now.records in
    let known : c.find-place.result ≡ last_place (circuit_in c.args.sheet.now c.args.pin.now) records = c.find-place.ensures ∙ c.args.self.now.known.pins c.args.sheet.now c.args.pin.now in
    c.sheet_row.ensures ∙ looked_up (circuit_in c.args.sheet.now c.args.pin.now) records (c.find-place.result) (Some c.in-Some.record.now) known (sym (ap option_copied c.in-Some.is) ∙ c.record_at.ensures)

pub returns-in-None : goal.returns-in-None
returns-in-None c =
    let records = c.args.self.now.records in
    let known : c.find-place.result ≡ last_place (circuit_in c.args.sheet.now c.args.pin.now) records = c.find-place.ensures ∙ c.args.self.now.known.pins c.args.sheet.now c.args.pin.now in
    looked_up (circuit_in c.args.sheet.now c.args.pin.now) records (c.find-place.result) None known (sym (ap option_copied c.in-None.is) ∙ c.record_at.ensures)
