use Rattle.std.proofs.Common.{sym, ap, ◌∙◌, arith, take_all}
use Rattle.std.specs.List.{list_all}
use Rattle.std.proofs.lemmas.List.Folds.{list_all_at, list_all-map}
use Rattle.lg_timing.specs.Circuit.{Part}
use Rattle.lg_instants.specs.Plain.{is_port}
use Rattle.lg_instants.proofs.well_formed.have_output_ports.Goals as goal

pub returns-then-not-are_ports : goal.returns-then-not-are_ports
returns-then-not-are_ports g c =
    let fails = c.if-not-are_ports.true in
    let answer = c.are_ports.ensures in
    let ports = c.outputs.ensures in
    let test = list_all-map (λ (p : Part). list_all is_port p.outputs) g.P.Behaviour.meaning c.args.parts.now in
    sym (test ∙ list_all_at (λ part. list_all is_port (g.P.Behaviour.meaning part).outputs) c.args.parts.now c.loop-part.part-index c.part-item.result (omega arith)
    (ap (λ part. list_all is_port (g.P.Behaviour.meaning part).outputs) (sym c.part-item.is) ∙ (cc)))

pub returns : goal.returns
returns g c =
    sym (list_all-map (λ (p : Part). list_all is_port p.outputs) g.P.Behaviour.meaning c.args.parts.now
    ∙ ap (list_all (λ part. list_all is_port (g.P.Behaviour.meaning part).outputs)) (sym (take_all c.loop-part.part-index c.args.parts.now (omega arith))) ∙ c.loop-part.invariant)
