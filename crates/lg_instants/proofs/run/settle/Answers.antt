use Rattle.std.proofs.Common.{◌≡◌, ◌+◌, ◌-◌, ◌<◌, ℕ, map, refl, ap, ◌∙◌, subst, arith}
use Rattle.std.specs.Prelude.{option_copied}
use Rattle.lg_timing.specs.Configuration.{staying}
use Rattle.lg_timing.specs.Evaluation.{counted}
use Rattle.lg_timing.specs.Staying.{configuration_put, evaluations_since}
use Rattle.lg_timing.proofs.Still.{delays-from_steady}
use Rattle.lg_timing.proofs.LedTo.{led-put}
use Rattle.lg_instants.specs.Plain.{circuit_of, greatest_delay}
use Rattle.lg_instants.specs.Stepping.{RunFinds}
use Rattle.lg_instants.proofs.Runs.{run-on, run-settled, led-there, IsReached, reached-start, reached-next, reached-settles, reached-oscillates, oscillates-some}
use Rattle.lg_instants.proofs.run.settle.Goals as goal

pub loop-init : goal.loop-init
loop-init g c =
    let circuit = circuit_of g.P.Behaviour.meaning c.args.circuit.now in
    record {
      is = c.in_ok-run.ensures.is;
      here = c.in_ok-run.ensures.none;
      few = omega arith;
      reached = reached-start circuit (configuration_put circuit (option_copied c.args.stood) c.args.stimulus.now);
    }

pub returns-then-not-branch-clause-settling : goal.returns-then-not-branch-clause-settling
returns-then-not-branch-clause-settling g c =
    let circuit = circuit_of g.P.Behaviour.meaning c.args.circuit.now in
    let stood = option_copied c.args.stood in
    let s = c.args.stimulus.now in
    let k = configuration_put circuit stood s in
    let most = c.greatest_delay-reach.ensures ∙ ap (λ x. greatest_delay (map g.P.Behaviour.meaning x)) c.as_slice.ensures.value in
    let finds = subst (RunFinds circuit c.loop.run c.next_busy.new.run c.greatest_delay-reach.result) c.if-not-branch.true c.in_ok-next_busy.ensures in
    let led = led-put circuit stood s (delays-from_steady c.requires.steady.0 circuit c.requires.steady.1) c.requires.stood in
    let at_last = c.loop.invariant.is.configuration ∙ ap (staying circuit k) c.loop.invariant.here in
    let settles = reached-settles c.requires.steady.0 c.args.limit c.greatest_delay-reach.result circuit k c.loop.run.configuration c.loop.last c.loop.counter
    c.requires.steady.1 led most at_last c.loop.invariant.reached (omega arith) finds.1 in (
      settles,
      (run-settled c.requires.steady.0 c.args.limit circuit stood s c.loop.run c.next_busy.new.run c.loop.last c.greatest_delay-reach.result
          c.requires.steady.1 c.requires.stood c.loop.invariant.is c.loop.invariant.here finds.0 settles).1,
    )

pub returns-then-not-branch-clause-configuration : goal.returns-then-not-branch-clause-configuration
returns-then-not-branch-clause-configuration g c =
    let circuit = circuit_of g.P.Behaviour.meaning c.args.circuit.now in
    let stood = option_copied c.args.stood in
    let s = c.args.stimulus.now in
    let settling = returns-then-not-branch-clause-settling g c in
    let finds = subst (RunFinds circuit c.loop.run c.next_busy.new.run c.greatest_delay-reach.result) c.if-not-branch.true c.in_ok-next_busy.ensures in
    (run-settled c.requires.steady.0 c.args.limit circuit stood s c.loop.run c.next_busy.new.run c.loop.last c.greatest_delay-reach.result
    c.requires.steady.1 c.requires.stood c.loop.invariant.is c.loop.invariant.here finds.0 settling.0).0

pub returns-then-not-branch-clause-led : goal.returns-then-not-branch-clause-led
returns-then-not-branch-clause-led g c =
    led-there c.requires.steady.0 (circuit_of g.P.Behaviour.meaning c.args.circuit.now) (option_copied c.args.stood) c.args.stimulus.now c.next_busy.new.run.configuration c.loop.last
    c.requires.steady.1 c.requires.stood (returns-then-not-branch-clause-configuration g c)

pub loop-preserved : goal.loop-preserved
loop-preserved g c =
    let circuit = circuit_of g.P.Behaviour.meaning c.args.circuit.now in
    let stood = option_copied c.args.stood in
    let s = c.args.stimulus.now in
    let k = configuration_put circuit stood s in
    let finds = subst (RunFinds circuit c.loop.run c.next_busy.new.run c.greatest_delay-reach.result) c.if-not-branch.false c.in_ok-next_busy.ensures in
    let n : ℕ = finds.0 in
    let goes = finds.2 in
    let first = finds.3 in
    let at_last = c.loop.invariant.is.configuration ∙ ap (staying circuit k) c.loop.invariant.here in
    let there : c.loop.last + n ≡ c.next_busy.new.run.took = omega (arith, goes.took, c.loop.invariant.here) in
    record {
      is = run-on circuit stood s c.loop.run c.next_busy.new.run n first.later c.loop.invariant.is goes;
      here = refl;
      few = grind (arith, goes.took, finds.1, c.loop.invariant.here, c.loop.invariant.few);
      reached = subst (λ t. IsReached circuit k t (c.loop.counter + 1)) there (reached-next circuit k c.loop.run.configuration c.loop.last c.loop.counter n at_last c.loop.invariant.reached first);
    }

pub returns-clause-settling : goal.returns-clause-settling
returns-clause-settling g c =
    let circuit = circuit_of g.P.Behaviour.meaning c.args.circuit.now in
    let stood = option_copied c.args.stood in
    let s = c.args.stimulus.now in
    let k = configuration_put circuit stood s in
    let past = reached-oscillates circuit k c.args.limit c.loop.last c.loop.counter c.loop.invariant.reached (omega arith) in
    let some : 0 < c.loop.run.took = omega (arith, oscillates-some circuit k c.args.limit c.loop.last past, c.loop.invariant.here) in (
      past,
      c.loop.invariant.is.before some ∙ ap (λ (m : ℕ). counted (evaluations_since circuit stood s (m - 1))) c.loop.invariant.here,
    )

pub returns-clause-led : goal.returns-clause-led
returns-clause-led g c =
    led-there c.requires.steady.0 (circuit_of g.P.Behaviour.meaning c.args.circuit.now) (option_copied c.args.stood) c.args.stimulus.now c.loop.run.configuration c.loop.run.took
    c.requires.steady.1 c.requires.stood c.loop.invariant.is.configuration
