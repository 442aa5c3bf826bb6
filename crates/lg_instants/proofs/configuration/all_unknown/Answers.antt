use Rattle.std.proofs.Common.{◌≡◌, true, List, length, sym, ap, subst, arith}
use Rattle.std.specs.List.{list_all}
use Rattle.lg_timing.specs.Circuit.{Port, Part}
use Rattle.lg_timing.specs.Instant.{Numbered, unknown_words}
use Rattle.lg_instants.specs.Plain.{is_port}
use Rattle.lg_instants.proofs.PartSteps.{list_all-meaning, numbered_more, numbered_all, element-along}
use Rattle.lg_instants.proofs.configuration.all_unknown.Goals as goal

pub unknown_words-requires : goal.unknown_words-requires
unknown_words-requires g c =
    let same = c.as_slice-parts.ensures.value in
    let ports = list_all-meaning g.P.Behaviour.meaning (λ (p : Part). list_all is_port p.outputs) c.args.circuit.now.parts.items c.loop-i.i c.index-parts-i.result c.requires.outputs (omega (arith, ap length same)) (element-along _ _ _ _ same c.index-parts-i.is) in
    subst (λ (l : List Port). list_all is_port l ≡ true) (sym c.outputs.ensures) ports

pub loop-i-preserved : goal.loop-i-preserved
loop-i-preserved g c =
    let same = c.as_slice-parts.ensures.value in
    let more = numbered_more g.P.Behaviour.meaning (λ (p : Numbered). unknown_words p.1.outputs) c.args.circuit.now.parts.items c.loop-i.i c.index-parts-i.result (element-along _ _ _ _ same c.index-parts-i.is) (omega (arith, ap length same)) in
    let before = c.loop-i.invariant in
    let made = c.in_ok-unknown_words.ensures in
    let word = c.new.ensures in
    let pushed = c.in_ok-push.ensures.items in
    cc (more, before, made, word, pushed, c.outputs.ensures)

pub returns : goal.returns
returns g c =
    let same = c.as_slice-parts.ensures.value in
    let all = numbered_all g.P.Behaviour.meaning (λ (p : Numbered). unknown_words p.1.outputs) c.args.circuit.now.parts.items c.loop-i.i (omega (arith, ap length same)) in
    let before = c.loop-i.invariant in
    cc (all, before)
