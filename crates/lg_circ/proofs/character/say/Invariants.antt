use Rattle.std.proofs.Common.{length}
use Rattle.std.specs.Prelude.{string_bytes}
use denote.Text.{Utf8}
use denote.Shadow.{shadow}
use Rattle.lg_circ.specs.Reading.{said_after, said_of}
use Rattle.lg_circ.proofs.Loops.{ReadsSaid}
use Rattle.lg_circ.proofs.character.say.Given as goal

abbrev pub invariant-references : goal.invariant-references
invariant-references l = shadow (Utf8 l.rest) × ReadsSaid (string_bytes l.said) l.rest (said_after (string_bytes l.initial.said) (said_of l.raw))

abbrev pub decreases-references : goal.decreases-references
decreases-references l = length l.rest
