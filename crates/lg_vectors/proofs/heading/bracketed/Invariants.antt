use Rattle.std.proofs.Common.{◌≡◌, ℕ, ◌<◌, ◌≤◌, ◌++◌}
use Rattle.std.specs.Prelude.{codes}
use Rattle.std.specs.Fmt.{decimal}
use Rattle.lg_vectors.proofs.heading.bracketed.Given as goal

-- no width so far stands there
abbrev pub invariant-loop-width : goal.invariant-loop-width
invariant-loop-width l = (width : ℕ) → 1 ≤ width → width < l.width → l.text ≡ codes "[" ++ (decimal width ++ codes "]") → ⊥
