use Rattle.std.proofs.Common.{List, map, ap, ◌∙◌}
use Rattle.lg_timing.specs.Circuit.{Word, Stimulus}
use Rattle.lg_timing.specs.Instant.{numbered_parts}
use Rattle.lg_instants.specs.Plain.{circuit_of, bit_from, all_inputs}
use Rattle.lg_instants.specs.Stepping.{starts_from, dues_from}
use Rattle.lg_instants.proofs.SteppingLemmas.{with_lists, first-is}
use Rattle.lg_instants.proofs.configuration.Configuration.first.Goals as goal

pub returns : goal.returns
returns g c =
    let circuit = circuit_of g.P.Behaviour.meaning c.args.circuit.now in
    let parts = numbered_parts circuit in
    let stimulus = c.args.stimulus.now in
    let shown = c.in_ok-shown.shown.items in
    let now = c.in_ok-now.now.items in
    let states = c.in_ok-states.states.items in
    let unknown = c.in_ok-unknown.unknown.items in
    c.new.ensures
    ∙ ap (λ (s : Stimulus). with_lists s shown states c.in_ok-due.due.items) c.in_ok-copy.ensures
    ∙ first-is circuit stimulus shown now states unknown c.in_ok-due.due.items
    c.in_ok-shown.ensures
    (c.in_ok-now.ensures ∙ ap (λ (l : List (List Word)). all_inputs circuit (bit_from circuit stimulus l)) c.as_slice.ensures.value)
    (c.in_ok-states.ensures ∙ ap (λ (l : List (List Word)). map (starts_from l) parts) c.as_slice-2.ensures.value)
    c.in_ok-unknown.ensures
    (c.in_ok-due.ensures
    ∙ ap (λ (l : List (List (List Word))). map (dues_from l c.as_slice-4.result.now c.as_slice-5.result.now) parts) c.as_slice-3.ensures.value
    ∙ ap (λ (l : List (List Word)). map (dues_from unknown l c.as_slice-5.result.now) parts) c.as_slice-4.ensures.value
    ∙ ap (λ (l : List (List Word)). map (dues_from unknown states l) parts) c.as_slice-5.ensures.value)
