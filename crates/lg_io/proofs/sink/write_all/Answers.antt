use Rattle.std.proofs.Common.{rules}
use Rattle.lg_io.proofs.SinkLemmas.{taken-next}
use Rattle.lg_io.proofs.sink.write_all.Goals as goal

pub loop-done-preserved : goal.loop-done-preserved
loop-done-preserved g c = record {
  within = search rules;
  taken = taken-next _ _ _ _ _ _ c.loop-done.invariant.taken c.in_ok-done.ensures.takes;
  never_falls = search rules;
  empty = search rules;
}
