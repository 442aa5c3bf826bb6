use Rattle.std.proofs.Common.{ℕ, List, [], ◌∷◌, ◌++◌, map, ap, ◌∙◌, arith}
use Rattle.lg_value.specs.declared.bit.Bit.{Bit}
use Rattle.lg_timing.specs.Circuit.{Word}
use Rattle.lg_timing.specs.Configuration.{nets_of}
use Rattle.lg_instants.specs.Plain.{circuit_of, bit_from}
use Rattle.lg_instants.proofs.SteppingLemmas.{bit_from-shown, words-more}
use Rattle.lg_instants.proofs.configuration.Configuration.read.Goals as goal

pub loop-nets-preserved : goal.loop-nets-preserved
loop-nets-preserved g c =
    let circuit = circuit_of g.P.Behaviour.meaning c.args.circuit.now in
    let nets = ap (λ (l : List (List Word)). bit_from circuit c.self.inside.stimulus l) c.as_slice-shown.ensures.value
    ∙ bit_from-shown circuit c.self.inside.stimulus c.self.inside.shown.items
    ∙ ap (nets_of circuit) c.self.view_is in
    let word = c.word_on.ensures
    ∙ ap (λ (f : ℕ → Bit). map f c.nets.result.now) nets
    ∙ ap (map (nets_of circuit c.args.self.now)) c.nets.ensures in
    c.in_ok-push.ensures.items
    ∙ ap (λ (w : Word). c.loop-nets.words.items ++ w ∷ []) word
    ∙ words-more (nets_of circuit c.args.self.now) c.as_slice-pins.result.now c.loop-nets.nets-index c.nets-item.result c.loop-nets.words.items (omega arith) c.nets-item.is c.loop-nets.invariant
