use Rattle.std.proofs.Common.{◌≡◌, ℕ, List, [], ◌∷◌, ◌++◌, map, zip, Option, ◌⊎◌, inl, inr, refl, sym, ap, ◌∙◌, append-nil}
use Rattle.std.proofs.lemmas.Slice.Zip.{either_empty_from_Zip}
use Rattle.lg_vmachine.specs.declared.term.Term.{Term}
use Rattle.lg_vmachine.specs.Machine.{next_number}
use Rattle.lg_vmachine.proofs.machine.Machine.next_numbers.Goals as goal

no_pairs : (terms : List (Option Term)) (olds : List ℕ) → (terms ≡ []) ⊎ (olds ≡ []) → zip terms olds ≡ []
no_pairs terms olds (inl none) = ap (λ (ts : List (Option Term)). zip ts olds) none
no_pairs terms olds (inr none) = ap (λ (ns : List ℕ). zip terms ns) none ∙ past_all terms
  where
    past_all : (ts : List (Option Term)) → zip {X = ℕ} ts [] ≡ []
    past_all [] = refl
    past_all (t ∷ ts) = refl

pub returns : goal.returns
returns c =
    let ended = either_empty_from_Zip _ c.next.new.self _ c.in-None.is c.next.ensures.steps in
    let next = next_number c.args.regs.now.memories c.args.numbers.now in
    let none = no_pairs _ _ ended in
    sym (append-nil c.loop-term.next.items)
    ∙ (ap (λ (pairs : List (Option Term × ℕ)). c.loop-term.next.items ++ map next pairs) (sym none) ∙ c.loop-term.invariant)
