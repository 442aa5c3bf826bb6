use Rattle.std.proofs.Common.{◌≡◌, ◌∙◌, sym, ap, Some, None}
use Rattle.std.specs.Option.{option_copied}
use Rattle.lg_kinds.specs.Index.{found}
use Rattle.lg_kinds.specs.Latest.{last_place}
use Rattle.lg_kinds.specs.PortTable.{default_in}
use Rattle.lg_kinds.proofs.LastLemmas.{looked_up}
use Rattle.lg_kinds.proofs.port_table.PortTable.default_of.Goals as goal

pub returns-in-Some : goal.returns-in-Some
returns-in-Some c =
    let records = c.args.self.now.records in
    let known : c.find-place.result ≡ last_place (default_in c.args.kind c.args.attr.now) records = c.find-place.ensures ∙ ap (λ name. found c.args.self.now.latest.defaults name c.args.attr.now) c.kind_name.ensures ∙ c.args.self.now.known.defaults c.args.kind c.args.attr.now in
    c.default_of.ensures ∙ looked_up (default_in c.args.kind c.args.attr.now) records (c.find-place.result) (Some c.in-Some.record.now) known (sym (ap option_copied c.in-Some.is) ∙ c.record_at.ensures)

pub returns-in-None : goal.returns-in-None
returns-in-None c =
    let records = c.args.self.now.records in
    let known : c.find-place.result ≡ last_place (default_in c.args.kind c.args.attr.now) records = c.find-place.ensures ∙ ap (λ name. found c.args.self.now.latest.defaults name c.args.attr.now) c.kind_name.ensures ∙ c.args.self.now.known.defaults c.args.kind c.args.attr.now in
    looked_up (default_in c.args.kind c.args.attr.now) records (c.find-place.result) None known (sym (ap option_copied c.in-None.is) ∙ c.record_at.ensures)
