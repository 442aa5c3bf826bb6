-- Lists that grow at their end.
use Rattle.std.proofs.Common.{◌≡◌, ◌∙◌, sym, ap, ℕ, ◌+◌, ◌<◌, ◌≤◌, List, [], ◌∷◌, ◌++◌, length, get_or, take, map, append_assoc, zero-add, refl, arith}
use Rattle.std.specs.List.{flat_map, range_with_len}
use Rattle.std.proofs.lemmas.List.{take_more, get_or-map, length-map, flat_map_more}
use Rattle.std.proofs.lemmas.List.FromFn.{map-range_with_len_more, length-map-range_with_len}

-- what a function gives of the next number
pub grown_map : {X : Type 0} (f : ℕ → X) (old now next : List X) (k : ℕ) (x : X) → now ≡ old ++ map f (range_with_len 0 k) → x ≡ f k → next ≡ now ++ x ∷ [] → next ≡ old ++ map f (range_with_len 0 (k + 1))
grown_map f old now next k x e g n =
    let more : map f (range_with_len 0 (k + 1)) ≡ map f (range_with_len 0 k) ++ f k ∷ [] = map-range_with_len_more f 0 k k (zero-add k) in
    n ∙ ap (λ l. l ++ x ∷ []) e ∙ append_assoc old (map f (range_with_len 0 k)) (x ∷ []) ∙ ap (λ l. old ++ l) (ap (λ y. map f (range_with_len 0 k) ++ y ∷ []) g ∙ sym more)

-- the lists that a function gives of the next number
pub grown_flat : {X : Type 0} (f : ℕ → List X) (old now next : List X) (k : ℕ) → now ≡ old ++ flat_map f (range_with_len 0 k) → next ≡ now ++ f k → next ≡ old ++ flat_map f (range_with_len 0 (k + 1))
grown_flat f old now next k e n =
    n ∙ ap (λ l. l ++ f k) e ∙ flat_map_more f old (range_with_len 0 k) k ∙ ap (λ l. old ++ flat_map f l) (sym (range_with_len_more k))
  where
    same : (xs : List ℕ) → map (λ (x : ℕ). x) xs ≡ xs
    same [] = refl
    same (x ∷ xs) = ap (λ l. x ∷ l) (same xs)

    range_with_len_more : (k : ℕ) → range_with_len 0 (k + 1) ≡ range_with_len 0 k ++ k ∷ []
    range_with_len_more k = sym (same (range_with_len 0 (k + 1))) ∙ map-range_with_len_more (λ (x : ℕ). x) 0 k k (zero-add k) ∙ ap (λ l. l ++ k ∷ []) (same (range_with_len 0 k))

-- the lists that a function gives of the next row
pub grown_rows : {X Y Z : Type 0} (g : Y → List Z) (f : X → Y) (xs : List X) (i : ℕ) (d : X) (now next : List Z) → i < length xs → now ≡ flat_map g (take i (map f xs)) → next ≡ now ++ g (f (get_or xs i d)) → next ≡ flat_map g (take (i + 1) (map f xs))
grown_rows g f xs i d now next inside e n =
    let within : i < length (map f xs) = rw (length-map xs f) inside in
    let more : take (i + 1) (map f xs) ≡ take i (map f xs) ++ f (get_or xs i d) ∷ [] = take_more (map f xs) i (f d) within ∙ ap (λ y. take i (map f xs) ++ y ∷ []) (get_or-map f xs i d (f d) inside) in
    n ∙ ap (λ l. l ++ g (f (get_or xs i d))) e ∙ flat_map_more g [] (take i (map f xs)) (f (get_or xs i d)) ∙ ap (flat_map g) (sym more)

-- how many numbers were taken
pub few_mapped : {X : Type 0} (f : ℕ → X) (xs : List X) (k n : ℕ) → xs ≡ map f (range_with_len 0 k) → k ≤ n → length xs ≤ n
few_mapped f xs k n e small = omega (arith, ap length e, length-map-range_with_len f 0 k)
