use Rattle.std.proofs.Common.{◌≡◌, ℕ, suc, List, [], ◌∷◌, length, refl, ap}
use Rattle.lg_vmeaning.specs.declared.ports.PortLine.{PortLine}
use Rattle.lg_vmeaning.specs.Solution.{AreNumbers}
use Rattle.lg_vmeaning.proofs.ports.are_numbers.Invariants.{pairs}
use Rattle.lg_vmeaning.proofs.ports.are_numbers.Goals as goal

-- there are as many numbers as ports
as_many : (lines : List PortLine) (numbers : List ℕ) → AreNumbers (pairs lines) numbers → length lines ≡ length numbers
as_many [] [] are = refl
as_many [] (n ∷ numbers) are = absurd are
as_many (l ∷ lines) [] are = absurd are
as_many (l ∷ lines) (n ∷ numbers) are = ap suc (as_many lines numbers are.1)

pub returns-then-lines-numbers : goal.returns-then-lines-numbers
returns-then-lines-numbers c = (λ never. absurd (cc never), λ are. absurd (c.if-lines-numbers.true (as_many c.args.lines.now c.args.numbers.now are)))
