use Rattle.std.proofs.Common.{[], take}
use Rattle.std.specs.BTreeMap.{get_by_text}
use Rattle.lg_names.specs.Names.{AreNames}
use Rattle.lg_names.specs.NextNumbers.{KnowsTaken}
use Rattle.lg_names.proofs.names.pin_names.Given as goal

-- the names so far are those of the labels so far, and it is known which they are
abbrev pub invariant-loop-label : goal.invariant-loop-label
invariant-loop-label l = record {
  named : AreNames [] (take l.label-index l.labels) l.names;
  known : KnowsTaken l.names (λ q. get_by_text l.next q);
}
