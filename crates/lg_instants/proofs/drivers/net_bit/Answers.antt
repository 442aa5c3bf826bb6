use Rattle.std.proofs.Common.{◌≡◌, ◌==◌, ℕ, List, map, filter, sym, ap, ◌∙◌}
use Rattle.lg_value.specs.declared.bit.Bit.{Bit}
use Rattle.lg_value.specs.Drivers.{joined_in_turn}
use Rattle.lg_timing.specs.Instant.{or_else, pulls_of}
use Rattle.lg_instants.specs.Plain.{bit_from, circuit_of}
use Rattle.lg_instants.proofs.DriverSteps.{driven_in_turn, or_else-known}
use Rattle.lg_instants.proofs.drivers.net_bit.Goals as goal

pub returns-in-Unknown : goal.returns-in-Unknown
unfolding bit_from
returns-in-Unknown g c =
    let d = driven_in_turn (circuit_of g.P.Behaviour.meaning c.args.circuit.now) c.args.stimulus.now c.args.outputs.now c.args.net c.join_parts-parts.result c.join_pins-pins.result c.join_clocks-driven.result (cc) (cc) (cc) in
    let p : c.pull_on.result ≡ joined_in_turn (pulls_of (circuit_of g.P.Behaviour.meaning c.args.circuit.now) c.args.net) =
    c.pull_on.ensures ∙ ap (λ (x : List (ℕ × Bit)). joined_in_turn (map (λ (p : ℕ × Bit). p.1) (filter (λ (p : ℕ × Bit). p.0 == c.args.net) x))) c.deref-in-Unknown.ensures.value in
    p ∙ ap (λ (x : Bit). or_else x (joined_in_turn (pulls_of (circuit_of g.P.Behaviour.meaning c.args.circuit.now) c.args.net))) (sym c.in-Unknown.is ∙ d)

pub returns-in_default : goal.returns-in_default
unfolding bit_from
returns-in_default g c =
    let d = driven_in_turn (circuit_of g.P.Behaviour.meaning c.args.circuit.now) c.args.stimulus.now c.args.outputs.now c.args.net c.join_parts-parts.result c.join_pins-pins.result c.join_clocks-driven.result (cc) (cc) (cc) in
    sym (or_else-known c.join_clocks-driven.result (joined_in_turn (pulls_of (circuit_of g.P.Behaviour.meaning c.args.circuit.now) c.args.net)) c.in_default.not-Unknown)
    ∙ ap (λ (x : Bit). or_else x (joined_in_turn (pulls_of (circuit_of g.P.Behaviour.meaning c.args.circuit.now) c.args.net))) d
