-- The first of a list that fails is one.
use Rattle.std.proofs.Common.{◌≡◌, ◌⊎◌, inl, inr, List, [], ◌∷◌, ◌++◌, refl, sym, ap, subst, ◌∙◌}
use Rattle.std.specs.Prelude.{All, slice_get}
use Rattle.std.proofs.lemmas.List.Elements.{All-head, All-tail}
use Rattle.std.proofs.lemmas.Option.{same_Some}

module _ {X : Type 0} where
  head_same : (x y : X) (xs ys : List X) → x ∷ xs ≡ y ∷ ys → x ≡ y
  head_same x y xs ys e = same_Some x y (ap (λ (all : List X). slice_get all 0) e)

  abbrev behind_first : List X → List X
  behind_first [] = []
  behind_first (x ∷ xs) = xs

  tail_same : (x y : X) (xs ys : List X) → x ∷ xs ≡ y ∷ ys → xs ≡ ys
  tail_same x y xs ys e = ap behind_first e

  -- an item stands behind these, as the list goes on
  abbrev pub GoesOn : List X → X → List X → Type 0
  GoesOn front x all = (more : List X) × (all ≡ front ++ x ∷ more)

  -- two ways to cut one list at an item: at one index, or the first before the second, or the second before the first
  abbrev pub Cuts : List X → List X → X → X → Type 0
  Cuts front other x y = ((front ≡ other) × (x ≡ y)) ⊎ (GoesOn front x other ⊎ GoesOn other y front)

  pub cut_twice : (front other after later : List X) (x y : X) → front ++ x ∷ after ≡ other ++ y ∷ later → Cuts front other x y
  cut_twice [] [] after later x y e = inl (refl, head_same x y after later e)
  cut_twice [] (z ∷ other) after later x y e =
      let first : x ≡ z = head_same x z after (other ++ y ∷ later) e in
      inr (inl (other, λ i. sym first i ∷ other))
  cut_twice (z ∷ front) [] after later x y e =
      let first : z ≡ y = head_same z y (front ++ x ∷ after) later e in
      inr (inr (front, λ i. first i ∷ front))
  cut_twice (z ∷ front) (w ∷ other) after later x y e =
      let first : z ≡ w = head_same z w (front ++ x ∷ after) (other ++ y ∷ later) e in
      longer first (cut_twice front other after later x y (tail_same z w (front ++ x ∷ after) (other ++ y ∷ later) e))
    where
      longer : z ≡ w → Cuts front other x y → Cuts (z ∷ front) (w ∷ other) x y
      longer first (inl same) = inl (λ i. first i ∷ same.0 i, same.1)
      longer first (inr (inl on)) = inr (inl (on.0, λ i. sym first i ∷ on.1 i))
      longer first (inr (inr on)) = inr (inr (on.0, λ i. first i ∷ on.1 i))

  -- what holds of all holds amid them
  pub holds_amid : (P : X → Type 0) (front : List X) (x : X) (after : List X) → All P (front ++ x ∷ after) → P x
  holds_amid P [] x after all = All-head P x after all
  holds_amid P (y ∷ front) x after all = holds_amid P front x after (All-tail P y (front ++ x ∷ after) all)

  -- the first item that fails is one
  pub one_first : (P : X → Type 0) (all front other after later : List X) (x y : X) → all ≡ front ++ x ∷ after → all ≡ other ++ y ∷ later → All P front → All P other → (P x → ⊥) → (P y → ⊥) → (front ≡ other) × (x ≡ y)
  one_first P all front other after later x y e f holds others fails also = by_cut (cut_twice front other after later x y (sym e ∙ f))
    where
      by_cut : Cuts front other x y → (front ≡ other) × (x ≡ y)
      by_cut (inl same) = same
      by_cut (inr (inl on)) = absurd (fails (holds_amid P front x on.0 (subst (All P) on.1 others)))
      by_cut (inr (inr on)) = absurd (also (holds_amid P other y on.0 (subst (All P) on.1 holds)))
