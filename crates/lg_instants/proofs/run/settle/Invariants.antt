use Rattle.std.proofs.Common.{◌≡◌, ◌*◌, ◌≤◌}
use Rattle.std.specs.Prelude.{option_copied}
use Rattle.lg_timing.specs.Staying.{configuration_put}
use Rattle.lg_instants.specs.Plain.{circuit_of}
use Rattle.lg_instants.specs.Stepping.{IsRun}
use Rattle.lg_instants.proofs.Runs.{IsReached}
use Rattle.lg_instants.proofs.run.settle.Given as goal

abbrev pub invariant-loop : goal.invariant-loop
invariant-loop g l = record {
  is : IsRun (circuit_of g.P.Behaviour.meaning l.circuit) (option_copied l.stood) l.stimulus l.run;
  here : l.run.took ≡ l.last;
  few : l.last ≤ l.counter * l.reach;
  reached : IsReached (circuit_of g.P.Behaviour.meaning l.circuit) (configuration_put (circuit_of g.P.Behaviour.meaning l.circuit) (option_copied l.stood) l.stimulus) l.last l.counter;
}
