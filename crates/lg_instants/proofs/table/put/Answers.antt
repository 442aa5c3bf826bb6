use Rattle.std.proofs.Common.{List, sym, ap, ◌∙◌, subst}
use Rattle.std.specs.Prelude.{option_copied}
use Rattle.lg_timing.specs.Circuit.{Word, Stimulus}
use Rattle.lg_timing.specs.Session.{stimulus}
use Rattle.lg_instants.specs.Plain.{circuit_of}
use Rattle.lg_instants.specs.Rows.{EndsIn}
use Rattle.lg_instants.proofs.Endings.{ends-outcome}
use Rattle.lg_instants.proofs.table.put.Goals as goal

pub returns : goal.returns
returns g c =
    let circuit = circuit_of g.P.Behaviour.meaning c.args.circuit.now in
    let stood = option_copied c.args.stood in
    let s = c.new-stimulus.result in
    let same = c.new-stimulus.ensures ∙ ap (λ (w : List Word). stimulus 0 w c.args.clock) (c.in_ok-copy_of.ensures ∙ c.words.ensures) in
    let outcome = c.in_ok-outcome.outcome in
    let ends = ends-outcome circuit c.args.limit stood s outcome.settling outcome.configuration c.in_ok-outcome.ensures.settling c.in_ok-outcome.ensures.configuration c.in_ok-outcome.ensures.led in
    subst (λ (x : Stimulus). EndsIn circuit c.args.limit stood x c.of.result) same (subst (EndsIn circuit c.args.limit stood s) (sym c.of.ensures) ends)
