use Rattle.std.proofs.Common.{length}
use Rattle.lg_vectors.specs.Reading.{Fits}
use Rattle.lg_vectors.proofs.ReadingLemmas.{IsReading}
use Rattle.lg_vectors.proofs.read.read_vector.Given as goal

abbrev pub invariant-loop-rest : goal.invariant-loop-rest
invariant-loop-rest l = record {
  reading : IsReading l.bytes l.draft.columns l.draft.rows l.draft.over l.rest l.number;
  fits : Fits l.draft.columns l.draft.rows;
}

abbrev pub decreases-loop-rest : goal.decreases-loop-rest
decreases-loop-rest l = length l.rest
