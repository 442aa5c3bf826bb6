-- A part stands at its number.
use Rattle.std.proofs.Common.{◌≡◌, ℕ, ◌<◌, List, [], ◌∷◌, length, get_or, map, ◌∙◌, ap, refl, arith, suc}
use Rattle.std.proofs.lemmas.List.FromFn.{get_or-enumerate_from, length-enumerate_from}
use Rattle.lg_timing.specs.Circuit.{Circuit}
use Rattle.lg_timing.specs.Instant.{Numbered, numbered_parts}

-- two functions that agree at each element give the same list
pub map_at : {A B : Type 0} (f g : A → B) (xs : List A) → ((i : ℕ) (d : A) → i < length xs → f (get_or xs i d) ≡ g (get_or xs i d)) → map f xs ≡ map g xs
map_at f g [] same = refl
map_at f g (x ∷ xs) same =
    ap (λ b. b ∷ map f xs) (same 0 x (omega arith)) ∙ ap (λ bs. g x ∷ bs) (map_at f g xs (λ i d inside. same (suc i) d (omega (arith, inside))))

-- a part stands at its number
pub number-is : (c : Circuit) (i : ℕ) (d : Numbered) → i < length (numbered_parts c) → (get_or (numbered_parts c) i d).0 ≡ i
number-is c i d inside =
    let there : i < length c.parts = omega (arith, inside, length-enumerate_from 0 c.parts) in
    ap (λ (p : Numbered). p.0) (get_or-enumerate_from 0 c.parts i d there) ∙ omega arith
