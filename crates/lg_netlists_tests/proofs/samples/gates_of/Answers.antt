-- One fitting part more.
use Rattle.std.proofs.Common.{◌∷◌, [], arith}
use Rattle.std.proofs.lemmas.List.{length-append}
use Rattle.std.proofs.lemmas.List.Elements.{All-push}
use Rattle.lg_netlist.specs.Valid.{IsFittingPart}
use Rattle.lg_netlists_tests.proofs.samples.gates_of.Goals as goal

pub loop-gate-preserved : goal.loop-gate-preserved
loop-gate-preserved g c =
    let part = c.in_ok-gate_of.field-0 in
    record {
      one_each = rw c.in_ok-push.ensures.ok (omega (arith, length-append c.loop-gate.parts (part ∷ []), c.loop-gate.invariant.one_each));
      fit = rw c.in_ok-push.ensures.ok (All-push (IsFittingPart 8) c.loop-gate.parts part c.loop-gate.invariant.fit c.in_ok-gate_of.ensures);
    }
