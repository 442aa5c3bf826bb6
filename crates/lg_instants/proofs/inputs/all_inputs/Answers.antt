use Rattle.std.proofs.Common.{length, ap, arith}
use Rattle.std.specs.List.{list_all}
use Rattle.lg_timing.specs.Circuit.{Part}
use Rattle.lg_timing.specs.Instant.{Numbered, input_words}
use Rattle.lg_instants.specs.Plain.{is_port, circuit_of, bit_from}
use Rattle.lg_instants.proofs.PartSteps.{list_all-meaning, numbered_more, numbered_all, element-along}
use Rattle.lg_instants.proofs.inputs.all_inputs.Goals as goal

pub input_words-requires : goal.input_words-requires
input_words-requires g c =
    let same = c.as_slice-parts.ensures.value in
    list_all-meaning g.P.Behaviour.meaning (λ (p : Part). list_all is_port p.inputs) c.args.circuit.now.parts.items c.loop-i.i c.index-parts-i.result c.requires.inputs (omega (arith, ap length same)) (element-along _ _ _ _ same c.index-parts-i.is)

pub loop-i-preserved : goal.loop-i-preserved
loop-i-preserved g c =
    let same = c.as_slice-parts.ensures.value in
    let more = numbered_more g.P.Behaviour.meaning (λ (p : Numbered). input_words (bit_from (circuit_of g.P.Behaviour.meaning c.args.circuit.now) c.args.stimulus.now c.args.outputs.now) p.1) c.args.circuit.now.parts.items c.loop-i.i c.index-parts-i.result (element-along _ _ _ _ same c.index-parts-i.is) (omega (arith, ap length same)) in
    let before = c.loop-i.invariant in
    let made = c.in_ok-input_words.ensures in
    let pushed = c.in_ok-push.ensures.items in
    cc (more, before, made, pushed)

pub returns : goal.returns
returns g c =
    let same = c.as_slice-parts.ensures.value in
    let all = numbered_all g.P.Behaviour.meaning (λ (p : Numbered). input_words (bit_from (circuit_of g.P.Behaviour.meaning c.args.circuit.now) c.args.stimulus.now c.args.outputs.now) p.1) c.args.circuit.now.parts.items c.loop-i.i (omega (arith, ap length same)) in
    let before = c.loop-i.invariant in
    cc (all, before)
