use Rattle.std.proofs.Common.{◌≡◌, ℕ, ◌<◌, ◌≤◌, false}
use Rattle.lg_timing.specs.Staying.{is_busy_on}
use Rattle.lg_instants.specs.Plain.{circuit_of}
use Rattle.lg_instants.specs.Stepping.{RunGoesOn}
use Rattle.lg_instants.proofs.run.next_busy.Given as goal

abbrev pub invariant-loop : goal.invariant-loop
invariant-loop g l = record {
  on : RunGoesOn (circuit_of g.P.Behaviour.meaning l.circuit) l.initial.run l.run l.counter;
  quiet : (n : ℕ) → 0 < n → n ≤ l.counter → is_busy_on (circuit_of g.P.Behaviour.meaning l.circuit) l.initial.run.configuration n ≡ false;
}
