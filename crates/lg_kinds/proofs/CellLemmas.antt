-- The five fields of a record, and the names that a row gives.
use Rattle.std.proofs.Common.{arith, ◌≡◌, ◌∙◌, ap, ℕ, suc, ◌+◌, ◌-◌, ◌<◌, List, [], ◌∷◌, length, Option, Some, None, refl}
use Rattle.std.specs.Prelude.{option_map, unwrap_or}
use Rattle.std.specs.List.{range_with_len}
use denote.Bor.{Bor}
use Rattle.csv.specs.Records.{field_at}

-- the numbers from one to another are the first of them and those behind it
pub ranged : (a b : ℕ) → a < b → range_with_len a (b - a) ≡ a ∷ range_with_len (a + 1) (b - (a + 1))
ranged a b inside = let more : b - a ≡ suc (b - (a + 1)) = omega arith in ap (range_with_len a) more

-- five fields are those at the five places
pub five : (fields : List (List ℕ)) → length fields ≡ 5 → fields ≡ unwrap_or (field_at fields 0) [] ∷ unwrap_or (field_at fields 1) [] ∷ unwrap_or (field_at fields 2) [] ∷ unwrap_or (field_at fields 3) [] ∷ unwrap_or (field_at fields 4) [] ∷ []
unfolding field_at
five [] h = let none : ⊥ = omega arith in absurd none
five (a ∷ []) h = let none : ⊥ = omega arith in absurd none
five (a ∷ b ∷ []) h = let none : ⊥ = omega arith in absurd none
five (a ∷ b ∷ c ∷ []) h = let none : ⊥ = omega arith in absurd none
five (a ∷ b ∷ c ∷ d ∷ []) h = let none : ⊥ = omega arith in absurd none
five (a ∷ b ∷ c ∷ d ∷ e ∷ []) h = refl
five (a ∷ b ∷ c ∷ d ∷ e ∷ f ∷ rest) h = let none : ⊥ = omega arith in absurd none

unwrapped : (o : Option (Bor (List ℕ))) (d : Bor (List ℕ)) → (unwrap_or o d).now ≡ unwrap_or (option_map (λ (t : Bor (List ℕ)). t.now) o) d.now
unwrapped None d = refl
unwrapped (Some x) d = refl

-- the field at a place, empty where there is none
pub field_there : (fields : List (List ℕ)) (i : ℕ) (o : Option (Bor (List ℕ))) (d r : Bor (List ℕ)) → d.now ≡ [] → option_map (λ (t : Bor (List ℕ)). t.now) o ≡ field_at fields i → r ≡ unwrap_or o d → r.now ≡ unwrap_or (field_at fields i) []
field_there fields i o d r none e is = ap (λ (t : Bor (List ℕ)). t.now) is ∙ (unwrapped o d ∙ (ap (λ p. unwrap_or p d.now) e ∙ ap (unwrap_or (field_at fields i)) none))
