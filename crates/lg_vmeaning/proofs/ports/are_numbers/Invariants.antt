use Rattle.std.proofs.Common.{ℕ, List, map, drop}
use Rattle.lg_vmeaning.specs.declared.ports.PortLine.{PortLine}
use Rattle.lg_vmeaning.specs.Solution.{AreNumbers}
use Rattle.lg_vmeaning.proofs.ports.are_numbers.Given as goal

abbrev pub pairs : List PortLine → List (List ℕ × ℕ)
pairs lines = map (λ (line : PortLine). (line.name, line.width)) lines

-- what is left decides
abbrev pub invariant-loop-at : goal.invariant-loop-at
invariant-loop-at l =
    (AreNumbers (pairs l.lines) l.numbers → AreNumbers (pairs (drop l.at l.lines)) (drop l.at l.numbers))
    × (AreNumbers (pairs (drop l.at l.lines)) (drop l.at l.numbers) → AreNumbers (pairs l.lines) l.numbers)
