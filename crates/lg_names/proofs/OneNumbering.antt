-- Items have one numbering.
use Rattle.std.specs.Prelude.{◌≡◌, ℕ, zero, suc, ◌<◌, ◌⊎◌, List, [], ◌∷◌, length, slice_get, slice_index, Some, refl}
use Rattle.std.proofs.Common.{sym, ap, ◌∙◌, inl, inr, arith}
use Rattle.std.proofs.lemmas.Bool.{cases_order}
use Rattle.std.proofs.lemmas.Grind.{same_number_lists}
use Rattle.lg_names.specs.Numbering.{IsNumbering}

-- the item at a place
item_at : {A : Type 0} (items : List A) (i : ℕ) → i < length items → (a : A) × (slice_get items i ≡ Some a)
item_at [] i within = absurd (omega arith)
item_at (a ∷ items) zero within = (a, refl)
item_at (a ∷ items) (suc i) within = item_at items i (omega arith)

-- a first difference of two numberings cannot be a lesser number in one of them
none_less : {A : Type 0} {Together : A → A → Type 0} (items : List A) (numbers numbers' : List ℕ) (count count' i : ℕ) → IsNumbering Together items numbers count
    → IsNumbering Together items numbers' count' → i < length items → ((j : ℕ) → j < i → slice_index numbers j ≡ slice_index numbers' j) → slice_index numbers i < slice_index numbers' i → ⊥
none_less items numbers numbers' count count' i n n' within before less =
    let earlier = n'.in_order i (slice_index numbers i) (omega (arith, n'.one_each)) less in
    let j = earlier.0 in
    let a = item_at items j (omega (arith, earlier.1)) in
    let b = item_at items i within in
    let same : slice_index numbers j ≡ slice_index numbers i = before j earlier.1 ∙ earlier.2 in
    let same' : slice_index numbers' j ≡ slice_index numbers' i = (n'.classes j i a.0 b.0 a.1 b.1).1 ((n.classes j i a.0 b.0 a.1 b.1).0 same) in
    omega (arith, earlier.2)

same_at : {A : Type 0} {Together : A → A → Type 0} (items : List A) (numbers numbers' : List ℕ) (count count' i : ℕ) → IsNumbering Together items numbers count
    → IsNumbering Together items numbers' count' → i < length items → ((j : ℕ) → j < i → slice_index numbers j ≡ slice_index numbers' j)
    → (slice_index numbers i ≡ slice_index numbers' i) ⊎ ((slice_index numbers i < slice_index numbers' i) ⊎ (slice_index numbers' i < slice_index numbers i))
    → slice_index numbers i ≡ slice_index numbers' i
same_at items numbers numbers' count count' i n n' within before (inl e) = e
same_at items numbers numbers' count count' i n n' within before (inr (inl less)) = absurd (none_less items numbers numbers' count count' i n n' within before less)
same_at items numbers numbers' count count' i n n' within before (inr (inr more)) =
    absurd (none_less items numbers' numbers count' count i n' n within (λ j less. sym (before j less)) more)

same_below : {A : Type 0} {Together : A → A → Type 0} (items : List A) (numbers numbers' : List ℕ) (count count' : ℕ) → IsNumbering Together items numbers count
    → IsNumbering Together items numbers' count' → (bound i : ℕ) → i < bound → i < length items → slice_index numbers i ≡ slice_index numbers' i
same_below items numbers numbers' count count' n n' zero i less within = absurd (omega arith)
same_below items numbers numbers' count count' n n' (suc bound) i less within =
    same_at items numbers numbers' count count' i n n' within (λ j earlier. same_below items numbers numbers' count count' n n' bound j (omega arith) (omega arith))
    (cases_order (slice_index numbers i) (slice_index numbers' i))

-- the last number of a numbering is in the other one too
not_fewer : {A : Type 0} {Together : A → A → Type 0} (items : List A) (numbers numbers' : List ℕ) (count count' : ℕ) → IsNumbering Together items numbers count
    → IsNumbering Together items numbers' count' → numbers ≡ numbers' → count < count' → ⊥
not_fewer items numbers numbers' count count' n n' same less =
    let last = n'.all_appear count less in
    omega (arith, n.below last.0 (omega (arith, ap length same, last.1)), last.2, ap (λ (ns : List ℕ). slice_index ns last.0) same)

same_count : {A : Type 0} {Together : A → A → Type 0} (items : List A) (numbers numbers' : List ℕ) (count count' : ℕ) → IsNumbering Together items numbers count
    → IsNumbering Together items numbers' count' → numbers ≡ numbers' → (count ≡ count') ⊎ ((count < count') ⊎ (count' < count)) → count ≡ count'
same_count items numbers numbers' count count' n n' same (inl e) = e
same_count items numbers numbers' count count' n n' same (inr (inl less)) = absurd (not_fewer items numbers numbers' count count' n n' same less)
same_count items numbers numbers' count count' n n' same (inr (inr more)) = absurd (not_fewer items numbers' numbers count' count n' n (sym same) more)

-- items have one numbering
pub one_numbering : {A : Type 0} {Together : A → A → Type 0} (items : List A) (numbers numbers' : List ℕ) (count count' : ℕ) → IsNumbering Together items numbers count
    → IsNumbering Together items numbers' count' → (numbers ≡ numbers') × (count ≡ count')
one_numbering items numbers numbers' count count' n n' =
    let same : numbers ≡ numbers' =
    same_number_lists numbers numbers' (n.one_each ∙ sym n'.one_each)
    (λ i less. same_below items numbers numbers' count count' n n' (length items) i (omega (arith, n.one_each)) (omega (arith, n.one_each))) in
    (same, same_count items numbers numbers' count count' n n' same (cases_order count count'))
