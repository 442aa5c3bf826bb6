use Rattle.std.proofs.Common.{length}
use Rattle.std.specs.List.{All}
use Rattle.lg_value.specs.Word.{IsWidth}
use Rattle.lg_vectors.specs.VectorText.{words}
use Rattle.lg_vectors.proofs.HeadingLemmas.{NamesSoFar}
use Rattle.lg_vectors.proofs.heading.read_columns.Given as goal

abbrev pub invariant-loop-word : goal.invariant-loop-word
invariant-loop-word l = record {
  names : NamesSoFar (words l.text) (words l.rest) l.columns;
  widths : All (λ c. IsWidth c.width) l.columns;
}

abbrev pub decreases-loop-word : goal.decreases-loop-word
decreases-loop-word l = length l.rest
