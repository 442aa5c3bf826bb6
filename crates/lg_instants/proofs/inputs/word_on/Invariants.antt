use Rattle.std.proofs.Common.{◌≡◌, ◌≤◌, map, take, length}
use Rattle.lg_instants.specs.Plain.{circuit_of, bit_from}
use Rattle.lg_instants.proofs.inputs.word_on.Given as goal

abbrev pub invariant-loop-i : goal.invariant-loop-i
invariant-loop-i g l = record {
  bits : l.word ≡ map (bit_from (circuit_of g.P.Behaviour.meaning l.circuit) l.stimulus l.outputs) (take l.i l.nets);
  long : length l.word ≡ l.i;
  few : length l.nets ≤ 64;
}
