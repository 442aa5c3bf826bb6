use Rattle.std.proofs.Common.{◌≡◌, ◌∙◌, sym, ap, Some, None}
use Rattle.std.specs.Option.{option_copied}
use Rattle.std.specs.BTreeMap.{get_by_text}
use Rattle.lg_kinds.specs.Latest.{last_place}
use Rattle.lg_kinds.specs.PortTable.{delay_in}
use Rattle.lg_kinds.proofs.LastLemmas.{looked_up}
use Rattle.lg_kinds.proofs.port_table.PortTable.delay_of.Goals as goal

pub returns-in-Some-clause-delay : goal.returns-in-Some-clause-delay
returns-in-Some-clause-delay c =
    let records = c.args.self.now.records in
    let known : c.copied-place.result ≡ last_place (delay_in c.args.kind) records = c.copied-place.ensures ∙ c.get.ensures.value ∙ ap (get_by_text c.args.self.now.latest.delays) c.kind_name.ensures ∙ c.args.self.now.known.delays c.args.kind in
    c.delay_of.ensures.delay ∙ looked_up (delay_in c.args.kind) records (c.copied-place.result) (Some c.in-Some.record.now) known (sym (ap option_copied c.in-Some.is) ∙ c.record_at.ensures)

pub returns-in-None-clause-delay : goal.returns-in-None-clause-delay
returns-in-None-clause-delay c =
    let records = c.args.self.now.records in
    let known : c.copied-place.result ≡ last_place (delay_in c.args.kind) records = c.copied-place.ensures ∙ c.get.ensures.value ∙ ap (get_by_text c.args.self.now.latest.delays) c.kind_name.ensures ∙ c.args.self.now.known.delays c.args.kind in
    looked_up (delay_in c.args.kind) records (c.copied-place.result) None known (sym (ap option_copied c.in-None.is) ∙ c.record_at.ensures)
