-- Bytes that are taken in parts.
use Rattle.std.proofs.Common.{◌≡◌, ℕ, ◌+◌, ◌≤◌, List, ◌++◌, length, take, Option, Some, None, refl, sym, ap, ◌∙◌, append_assoc, arith, inl, inr, Result, Ok, Err}
use Rattle.std.specs.Prelude.{option_map, IsErr, ⊤}
use Rattle.std.proofs.lemmas.List.{take-append-le, length-append}
use Rattle.std.proofs.Math.Seq.{take-append-add}
use Rattle.std.proofs.lemmas.Bool.{false≢true}
use Rattle.lg_io.specs.Fault.{HasRisen}
use Rattle.lg_io.specs.Sink.{Seen, Took, TookPrefix, Wrote, Said}
use Rattle.lg_io.specs.declared.fault.SinkFault.{SinkFault}

-- two parts after each other
in_two : (before : Option (List ℕ)) (a b : List ℕ) → option_map (λ (t : List ℕ). t ++ b) (option_map (λ (t : List ℕ). t ++ a) before) ≡ option_map (λ (t : List ℕ). t ++ (a ++ b)) before
in_two None a b = refl
in_two (Some t) a b = ap (λ (x : List ℕ). Some x) (append_assoc t a b)

pub Took-then : (before middle after : Seen) (a b : List ℕ) → Took before middle a → Took middle after b → Took before after (a ++ b)
Took-then before middle after a b first second = second ∙ (ap (option_map (λ (t : List ℕ). t ++ b)) first ∙ in_two before.taken a b)

-- a prefix of some bytes is a prefix of more
pub TookPrefix-more : (before after : Seen) (a b : List ℕ) → TookPrefix before after a → TookPrefix before after (a ++ b)
TookPrefix-more before after a b h =
    (h.0, omega (arith, h.1, length-append a b), h.2 ∙ ap (λ (p : List ℕ). option_map (λ (t : List ℕ). t ++ p) before.taken) (sym (take-append-le h.0 a b h.1)))

-- after some bytes a prefix of others
pub TookPrefix-after : (before middle after : Seen) (a b : List ℕ) → Took before middle a → TookPrefix middle after b → TookPrefix before after (a ++ b)
TookPrefix-after before middle after a b first h = (
  length a + h.0,
  omega (arith, h.1, length-append a b),
  Took-then before middle after a (take h.0 b) first h.2 ∙ ap (λ (p : List ℕ). option_map (λ (t : List ℕ). t ++ p) before.taken) (sym (take-append-add a b h.0)),
)

-- a count that rose later rose since the beginning
HasRisen-since : (before middle after : ℕ) → before ≤ middle → HasRisen middle after → HasRisen before after
HasRisen-since before middle after low h = omega arith

pub Wrote-err : (r : Result ⊤ SinkFault) (before after : Seen) (bytes : List ℕ) → IsErr r → TookPrefix before after bytes → HasRisen before.faults after.faults → Wrote r before after bytes
Wrote-err (Ok _) before after bytes e took rose = absurd (false≢true e)
Wrote-err (Err _) before after bytes e took rose = (took, rose)

-- a write after bytes that were taken
pub Wrote-after : (r : Result ⊤ SinkFault) (before middle after : Seen) (a b : List ℕ)
    → Took before middle a → before.faults ≤ middle.faults → Wrote r middle after b → Wrote r before after (a ++ b)
Wrote-after (Ok _) before middle after a b first low h = Took-then before middle after a b first h
Wrote-after (Err _) before middle after a b first low h =
    (TookPrefix-after before middle after a b first h.0, HasRisen-since before.faults middle.faults after.faults low h.1)

-- what a write did is what was said of a line
pub Said-from_wrote : (r : Result ⊤ SinkFault) (before after : Seen) (bytes : List ℕ) → Wrote r before after bytes → Said before after bytes
Said-from_wrote (Ok _) before after bytes h = inl h
Said-from_wrote (Err _) before after bytes h = inr h
