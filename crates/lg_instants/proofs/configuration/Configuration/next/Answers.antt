use Rattle.std.proofs.Common.{List, map, ap, ◌∙◌}
use Rattle.lg_timing.specs.Circuit.{Word, Stimulus}
use Rattle.lg_timing.specs.Instant.{Numbered, numbered_parts}
use Rattle.lg_timing.specs.Configuration.{Configuration, next}
use Rattle.lg_instants.specs.Plain.{circuit_of, bit_from, all_inputs}
use Rattle.lg_instants.specs.Stepping.{first_due, steps_from, dues_from}
use Rattle.lg_instants.proofs.SteppingLemmas.{with_lists, bit_from-shown, next-is}
use Rattle.lg_instants.proofs.configuration.Configuration.next.Goals as goal

pub returns : goal.returns
returns g c =
    let circuit = circuit_of g.P.Behaviour.meaning c.args.circuit.now in
    let parts = numbered_parts circuit in
    let stimulus = c.args.stimulus.now in
    let inside = c.self.inside in
    let k : Configuration = record {
      words = inside.stimulus.words;
      clock = inside.stimulus.clock;
      states = inside.states.items;
      shown = inside.shown.items;
      due = inside.due.items;
    } in
    let shown = c.in_ok-shown.shown.items in
    let before = c.in_ok-before.before.items in
    let now = c.in_ok-now.now.items in
    let states = c.in_ok-states.states.items in
    c.new.ensures
    ∙ ap (λ (s : Stimulus). with_lists s shown states c.in_ok-due.due.items) c.in_ok-copy.ensures
    ∙ next-is circuit stimulus k before shown now states c.in_ok-due.due.items
    (c.in_ok-before.ensures ∙ ap (λ (l : List (List Word)). all_inputs circuit (bit_from circuit inside.stimulus l)) c.as_slice.ensures.value ∙ ap (all_inputs circuit) (bit_from-shown circuit inside.stimulus inside.shown.items))
    (c.in_ok-shown.ensures ∙ ap (λ (l : List (List (List Word))). map (λ (p : Numbered). first_due l p.0) parts) c.as_slice-2.ensures.value)
    (c.in_ok-now.ensures ∙ ap (λ (l : List (List Word)). all_inputs circuit (bit_from circuit stimulus l)) c.as_slice-3.ensures.value)
    (c.in_ok-states.ensures
    ∙ ap (λ (l : List (List Word)). map (steps_from l c.as_slice-4.result.now c.as_slice-5.result.now) parts) c.as_slice-was.ensures.value
    ∙ ap (λ (l : List (List Word)). map (steps_from k.states l c.as_slice-5.result.now) parts) c.as_slice-4.ensures.value
    ∙ ap (λ (l : List (List Word)). map (steps_from k.states before l) parts) c.as_slice-5.ensures.value)
    (c.in_ok-due.ensures
    ∙ ap (λ (l : List (List (List Word))). map (dues_from l c.as_slice-6.result.now c.as_slice-7.result.now) parts) c.as_slice-due.ensures.value
    ∙ ap (λ (l : List (List Word)). map (dues_from k.due l c.as_slice-7.result.now) parts) c.as_slice-6.ensures.value
    ∙ ap (λ (l : List (List Word)). map (dues_from k.due states l) parts) c.as_slice-7.ensures.value)
    ∙ ap (next circuit stimulus) c.self.view_is
