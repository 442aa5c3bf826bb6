use Rattle.std.proofs.Common.{◌≡◌, ◌+◌, inl, inr, sym, ap, ◌∙◌, arith}
use Rattle.std.proofs.lemmas.Bool.{cases_lt}
use Rattle.lg_timing.specs.Staying.{is_busy_on}
use Rattle.lg_instants.specs.Plain.{circuit_of}
use Rattle.lg_instants.proofs.Runs.{run-none, run-step, run-tells}
use Rattle.lg_instants.proofs.run.next_busy.Goals as goal

pub loop-init : goal.loop-init
loop-init g c = record {
  on = run-none (circuit_of g.P.Behaviour.meaning c.args.circuit.now) c.args.run.now (omega arith);
  quiet = λ n some none. absurd (omega (arith, some, none));
}

pub returns-then-branch : goal.returns-then-branch
returns-then-branch g c =
    let circuit = circuit_of g.P.Behaviour.meaning c.args.circuit.now in
    let on = run-step circuit c.args.run.now c.loop.run c.step.new.run c.loop.counter c.in_ok-step.field-0 c.loop.invariant.on c.in_ok-step.ensures in
    let tells = run-tells circuit c.args.run.now c.loop.run c.step.new.run c.loop.counter c.in_ok-step.field-0 c.loop.invariant.on c.in_ok-step.ensures in (
      c.loop.counter + 1,
      omega arith,
      on,
      record {
        later = omega arith;
        busy = sym tells ∙ c.if-branch.true;
        quiet = λ n some before. c.loop.invariant.quiet n some (omega (arith, before));
      },
    )

pub loop-preserved : goal.loop-preserved
loop-preserved g c =
    let circuit = circuit_of g.P.Behaviour.meaning c.args.circuit.now in
    let tells = run-tells circuit c.args.run.now c.loop.run c.step.new.run c.loop.counter c.in_ok-step.field-0 c.loop.invariant.on c.in_ok-step.ensures in
    record {
      on = run-step circuit c.args.run.now c.loop.run c.step.new.run c.loop.counter c.in_ok-step.field-0 c.loop.invariant.on c.in_ok-step.ensures;
      quiet = λ n some within. elim (cases_lt n (c.loop.counter + 1)) [
        | inl h ↦ c.loop.invariant.quiet n some (omega (arith, h))
        | inr h ↦
            let here : n ≡ c.loop.counter + 1 = omega (arith, h, within) in
            ap (is_busy_on circuit c.args.run.now.configuration) here ∙ sym tells ∙ c.if-branch.false
      ];
    }
