-- Texts printed piece by piece.
use Rattle.std.proofs.Common.{◌≡◌, ℕ, List, ◌++◌, Result, Ok, Err, ap, ◌∙◌, append_assoc}
use Rattle.std.specs.Result.{OnOk}

-- three pieces, of which the last may fail
pub three_pieces : {T E : Type 0} (r : Result T E) (out one two three a b c whole : List ℕ) → one ≡ out ++ a → two ≡ one ++ b → OnOk r (three ≡ two ++ c) → a ++ b ++ c ≡ whole → OnOk r (three ≡ out ++ whole)
three_pieces (Ok x) out one two three a b c whole p q s w =
    s ∙ ap (λ (t : List ℕ). t ++ c) (q ∙ ap (λ (t : List ℕ). t ++ b) p) ∙ append_assoc (out ++ a) b c ∙ append_assoc out a (b ++ c) ∙ ap (λ (t : List ℕ). out ++ t) (regroup ∙ w)
  where
    regroup : a ++ (b ++ c) ≡ a ++ b ++ c
    regroup = simp append_assoc
three_pieces (Err x) out one two three a b c whole p q s w = tt
