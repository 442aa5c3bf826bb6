use Rattle.std.proofs.Common.{◌≡◌, ℕ, List, [], ◌∷◌, map, refl, ap, subst, ◌∙◌}
use Rattle.std.specs.Prelude.{◌↔◌, IsTrue}
use Rattle.lg_vrules.specs.Things.{lines_of, is_input}
use Rattle.lg_vmeaning.specs.declared.ports.PortLine.{PortLine}
use Rattle.lg_vmeaning.specs.Ports.{port_line}
use Rattle.lg_vmeaning.specs.Solution.{AreNumbers}
use Rattle.lg_vmeaning.proofs.valid_module.Valid.fits.Goals as goal

abbrev pairs : List PortLine → List (List ℕ × ℕ)
pairs lines = map (λ (line : PortLine). (line.name, line.width)) lines

-- the pairs of the port lines of pairs are these
pairs_again : (lines : List (List ℕ × ℕ)) → pairs (map port_line lines) ≡ lines
pairs_again [] = refl
pairs_again (l ∷ lines) = ap (λ (more : List (List ℕ × ℕ)). l ∷ more) (pairs_again lines)

pub returns : goal.returns
returns c =
    let lines = lines_of is_input c.args.self.now in
    let same : pairs c.inputs.result.now ≡ lines = ap pairs c.inputs.ensures.value ∙ pairs_again lines in
    subst (λ (some : List (List ℕ × ℕ)). IsTrue c.are_numbers.result ↔ AreNumbers some c.args.inputs.now) same c.are_numbers.ensures
