use Rattle.std.proofs.Common.{◌+◌, drop}
use Rattle.lg_timing.specs.Staying.{HasStood}
use Rattle.lg_instants.specs.Plain.{circuit_of}
use Rattle.lg_instants.proofs.Tables.{Begins}
use Rattle.lg_instants.proofs.table.session.Given as goal

abbrev pub invariant-loop-i : goal.invariant-loop-i
invariant-loop-i g l = record {
  begins : Begins (circuit_of g.P.Behaviour.meaning l.circuit) l.limit l.rows l.lines.items l.stood (l.i + 1) (drop l.i l.rows);
  stood : HasStood (circuit_of g.P.Behaviour.meaning l.circuit) l.stood;
}
