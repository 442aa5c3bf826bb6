-- Equations over indexes: their numbers in turn, and what an edge stores.
-- Source: IEEE 1364-2005, 9.2.2 (nonblocking assignments: all is computed before anything is stored).
use Rattle.std.specs.Prelude.{ℕ, ◌+◌, ◌==◌, List, [], ◌∷◌, ◌++◌, map, zip, fold, Option, Some, None, slice_set, slice_index_or, if◌then◌else◌}
use Rattle.lg_vmachine.specs.Kept.{Kept}
use Rattle.lg_vmachine.specs.declared.term.Term.{Term}
use Rattle.lg_vmachine.specs.declared.machine.Machine.{Machine}
use Rattle.lg_vmachine.specs.declared.machine.Write.{Write}
use Rattle.lg_vmachine.specs.Terms.{term_number}

-- the numbers after some equations in turn
abbrev pub run : List (List ℕ) → List ℕ → List Term → List ℕ
run memories numbers terms = fold (λ known t. known ++ term_number known memories t ∷ []) numbers terms

-- a register after an edge
abbrev pub next_number : List (List ℕ) → List ℕ → Option Term × ℕ → ℕ
next_number memories numbers (Some t, old) = term_number numbers memories t
next_number memories numbers (None, old) = old

-- what is written into a memory: an address and a value
abbrev pub written : List (List ℕ) → List ℕ → Option Write → Option (ℕ × ℕ)
written memories numbers None = None
written memories numbers (Some w) =
    if term_number numbers memories w.condition == 0 then None else Some (term_number numbers memories w.address, term_number numbers memories w.value)

-- a word at an address of one of the memories
abbrev pub put_word : List (List ℕ) → ℕ → ℕ → ℕ → List (List ℕ)
put_word memories memory address value = slice_set memories memory (slice_set (slice_index_or memories memory []) address value)

-- words, each into the memory at its index
abbrev pub put_words : ℕ → List (Option (ℕ × ℕ)) → List (List ℕ) → List (List ℕ)
put_words at [] memories = memories
put_words at (None ∷ words) memories = put_words (at + 1) words memories
put_words at (Some (address, value) ∷ words) memories = put_words (at + 1) words (put_word memories at address value)

-- registers and memories after an edge, where the equations have these numbers
abbrev pub stored_by : Machine → List ℕ → Kept → Kept
stored_by machine numbers kept = record {
  numbers = map (next_number kept.memories numbers) (zip machine.registers kept.numbers);
  memories = put_words 0 (map (written kept.memories numbers) machine.memories) kept.memories;
}
