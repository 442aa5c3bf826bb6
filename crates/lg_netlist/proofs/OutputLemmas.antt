-- The list of all outputs has each output once, by rising numbers.
use Rattle.std.proofs.Common.{◌≡◌, ℕ, zero, suc, ◌+◌, ◌<◌, ◌≤◌, List, [], ◌∷◌, ◌++◌, length, get_or, refl, sym, subst, ap, ◌∙◌, arith, ◌⊎◌, inl, inr, Option, None, Some}
use Rattle.std.specs.Prelude.{All, Contains, map, slice_get}
use Rattle.std.specs.List.{flat_map, enumerate_from}
use Rattle.std.proofs.lemmas.Bool.{cases_order}
use Rattle.std.proofs.lemmas.List.Elements.{All-nil, All-cons, All-head, All-tail, All-append, All-weaker, All-contains, Contains-append_left, Contains-append_right}
use Rattle.std.proofs.lemmas.Option.{same_Some, slice_get-get_or, get_or_from_slice_get, slice_get_within}
use Rattle.lg_netlist.specs.declared.netlist.PartUse.{PartUse}
use Rattle.lg_netlist.specs.declared.netlist.Netlist.{Netlist}
use Rattle.lg_netlist.specs.Chain.{Output, IsOutput}
use Rattle.lg_netlist.specs.Graph.{part_outputs, all_outputs}

-- the outputs of one part, from some number on
abbrev places : ℕ → ℕ → List (List ℕ) → List Output
places part from outputs = map (λ (o : ℕ × List ℕ). (part, o.0)) (enumerate_from from outputs)

places-All : (P : Output → Type 0) (part from : ℕ) (outputs : List (List ℕ)) → ((m : ℕ) → from ≤ m → m < from + length outputs → P (part, m))
    → All P (map (λ (o : ℕ × List ℕ). (part, o.0)) (enumerate_from from outputs))
places-All P part from [] h = All-nil P
places-All P part from (o ∷ outputs) h =
    All-cons P (part, from) (map (λ (o : ℕ × List ℕ). (part, o.0)) (enumerate_from (from + 1) outputs)) (h from (omega arith) (omega arith))
    (places-All P part (from + 1) outputs (λ m low high. h m (omega arith) (omega arith)))

-- what holds of each output of each part
outputs-All : (P : Output → Type 0) (k : ℕ) (parts : List PartUse)
    → ((j : ℕ) (p : PartUse) (m : ℕ) → slice_get parts j ≡ Some p → m < length p.outputs → P (k + j, m)) → All P (flat_map part_outputs (enumerate_from k parts))
outputs-All P k [] h = All-nil P
outputs-All P k (p ∷ parts) h =
    All-append P (part_outputs (k, p)) (flat_map part_outputs (enumerate_from (k + 1) parts))
    (places-All P k 0 p.outputs (λ m low high. subst (λ (i : ℕ). P (i, m)) (omega arith) (h 0 p m refl (omega arith))))
    (outputs-All P (k + 1) parts (λ j q m e less. subst (λ (i : ℕ). P (i, m)) (omega arith) (h (suc j) q m e less)))

pub outputs_are : (n : Netlist) → All (IsOutput n) (all_outputs n)
outputs_are n =
    outputs-All (IsOutput n) 0 n.parts
    (λ j p m e less. (p, subst (λ (i : ℕ). slice_get n.parts i ≡ Some p) (omega arith) e, less))

pub output_at : (n : Netlist) (k : ℕ) (o : Output) → slice_get (all_outputs n) k ≡ Some o → IsOutput n o
output_at n k o e =
    subst (IsOutput n) (get_or_from_slice_get (all_outputs n) k o o e) (outputs_are n k o (slice_get_within (all_outputs n) k o e))

-- each output is listed
place_listed : (part from : ℕ) (outputs : List (List ℕ)) (m : ℕ) → from ≤ m → m < from + length outputs
    → Contains {X = Output} (map (λ (o : ℕ × List ℕ). (part, o.0)) (enumerate_from from outputs)) (part, m)
place_listed part from [] m low high = absurd (omega arith)
place_listed part from (o ∷ outputs) m low high = go (λ less. place_listed part (from + 1) outputs m (omega arith) (omega arith)) (cases_order from m)
  where
    go : (from < m → Contains {X = Output} (map (λ (o : ℕ × List ℕ). (part, o.0)) (enumerate_from (from + 1) outputs)) (part, m)) → (from ≡ m) ⊎ ((from < m) ⊎ (m < from))
        → Contains {X = Output} ((part, from) ∷ map (λ (o : ℕ × List ℕ). (part, o.0)) (enumerate_from (from + 1) outputs)) (part, m)
    go later (inl e) = (0, omega arith, ap (λ (i : ℕ). (part, i)) e)
    go later (inr (inl less)) = Contains-append_right ((part, from) ∷ []) (map (λ (o : ℕ × List ℕ). (part, o.0)) (enumerate_from (from + 1) outputs)) (part, m) (later less)
    go later (inr (inr more)) = absurd (omega arith)

listed_from : (k : ℕ) (parts : List PartUse) (i m : ℕ) (p : PartUse) → slice_get parts i ≡ Some p → m < length p.outputs
    → Contains {X = Output} (flat_map part_outputs (enumerate_from k parts)) (k + i, m)
listed_from k [] i m p e less = absurd (cc)
listed_from k (q ∷ parts) zero m p e less =
    let same = same_Some q p e in
    let fits : m < length q.outputs = subst (λ (r : PartUse). m < length r.outputs) (sym same) less in
    subst (λ (j : ℕ). Contains {X = Output} (flat_map part_outputs (enumerate_from k (q ∷ parts))) (j, m)) (omega arith)
    (Contains-append_left (part_outputs (k, q)) (flat_map part_outputs (enumerate_from (k + 1) parts)) (k, m) (place_listed k 0 q.outputs m (omega arith) (omega arith)))
listed_from k (q ∷ parts) (suc i) m p e less =
    subst (λ (j : ℕ). Contains {X = Output} (flat_map part_outputs (enumerate_from k (q ∷ parts))) (j, m)) (omega arith)
    (Contains-append_right (part_outputs (k, q)) (flat_map part_outputs (enumerate_from (k + 1) parts)) (k + 1 + i, m) (listed_from (k + 1) parts i m p e less))

pub output_listed : (n : Netlist) (o : Output) → IsOutput n o → (k : ℕ) × (slice_get (all_outputs n) k ≡ Some o)
output_listed n o is =
    let h = subst (λ (j : ℕ). Contains {X = Output} (all_outputs n) (j, o.1)) (omega arith) (listed_from 0 n.parts o.0 o.1 is.0 is.1 is.2) in
    (h.0, slice_get-get_or (all_outputs n) h.0 o h.1 ∙ ap Some h.2)

-- the numbers rise
abbrev IsAbove : Output → Output → Type 0
IsAbove a b = (a.0 < b.0) ⊎ ((a.0 ≡ b.0) × (a.1 < b.1))

abbrev pub AreRising : List Output → Type 0
AreRising [] = Unit {0}
AreRising (o ∷ more) = All (λ b. (o.0 < b.0) ⊎ ((o.0 ≡ b.0) × (o.1 < b.1))) more × AreRising more

rising-append : (xs ys : List Output) → AreRising xs → AreRising ys → All (λ a. All (λ b. (a.0 < b.0) ⊎ ((a.0 ≡ b.0) × (a.1 < b.1))) ys) xs → AreRising (xs ++ ys)
rising-append [] ys r s h = s
rising-append (a ∷ xs) ys r s h = (
  All-append (λ b. (a.0 < b.0) ⊎ ((a.0 ≡ b.0) × (a.1 < b.1))) xs ys r.0 (All-head (λ a. All (λ b. (a.0 < b.0) ⊎ ((a.0 ≡ b.0) × (a.1 < b.1))) ys) a xs h),
  rising-append xs ys r.1 s (All-tail (λ a. All (λ b. (a.0 < b.0) ⊎ ((a.0 ≡ b.0) × (a.1 < b.1))) ys) a xs h),
)

places-rising : (part from : ℕ) (outputs : List (List ℕ)) → AreRising (map (λ (o : ℕ × List ℕ). (part, o.0)) (enumerate_from from outputs))
places-rising part from [] = tt
places-rising part from (o ∷ outputs) =
    (places-All (λ b. (part < b.0) ⊎ ((part ≡ b.0) × (from < b.1))) part (from + 1) outputs (λ m low high. inr (refl, omega arith)), places-rising part (from + 1) outputs)

outputs-rising : (k : ℕ) (parts : List PartUse) → AreRising (flat_map part_outputs (enumerate_from k parts))
outputs-rising k [] = tt
outputs-rising k (p ∷ parts) =
    rising-append (part_outputs (k, p)) (flat_map part_outputs (enumerate_from (k + 1) parts)) (places-rising k 0 p.outputs) (outputs-rising (k + 1) parts)
    (places-All (λ a. All (λ b. (a.0 < b.0) ⊎ ((a.0 ≡ b.0) × (a.1 < b.1))) (flat_map part_outputs (enumerate_from (k + 1) parts))) k 0 p.outputs
    (λ m low high. outputs-All (λ b. (k < b.0) ⊎ ((k ≡ b.0) × (m < b.1))) (k + 1) parts (λ j q i e less. inl (omega arith))))

rising-at : (xs : List Output) → AreRising xs → (i j : ℕ) (a b : Output) → i < j → slice_get xs i ≡ Some a → slice_get xs j ≡ Some b → IsAbove a b
rising-at [] r i j a b less e f = absurd (cc)
rising-at (x ∷ xs) r zero zero a b less e f = absurd (omega arith)
rising-at (x ∷ xs) r zero (suc j) a b less e f =
    let inside = slice_get_within xs j b f in
    let same = same_Some x a e in
    subst (λ (o : Output). IsAbove o b) same (subst (λ (o : Output). IsAbove x o) (get_or_from_slice_get xs j b b f) (r.0 j b inside))
rising-at (x ∷ xs) r (suc i) zero a b less e f = absurd (omega arith)
rising-at (x ∷ xs) r (suc i) (suc j) a b less e f = rising-at xs r.1 i j a b (omega arith) e f

-- an output that is listed earlier is of the same part or of an earlier one
pub parts_rise : (n : Netlist) (i j : ℕ) (a b : Output) → i < j → slice_get (all_outputs n) i ≡ Some a → slice_get (all_outputs n) j ≡ Some b → a.0 ≤ b.0
parts_rise n i j a b less e f = go (rising-at (all_outputs n) (outputs-rising 0 n.parts) i j a b less e f)
  where
    go : IsAbove a b → a.0 ≤ b.0
    go (inl h) = omega arith
    go (inr h) = let same = h.0 in omega arith

-- no output is listed twice
pub outputs_differ : (n : Netlist) (i j : ℕ) (o : Output) → slice_get (all_outputs n) i ≡ Some o → slice_get (all_outputs n) j ≡ Some o → i ≡ j
outputs_differ n i j o e f = go (cases_order i j)
  where
    no : IsAbove o o → ⊥
    no (inl h) = absurd (omega arith)
    no (inr h) = let less = h.1 in absurd (omega arith)

    go : (i ≡ j) ⊎ ((i < j) ⊎ (j < i)) → i ≡ j
    go (inl same) = same
    go (inr (inl less)) = absurd (no (rising-at (all_outputs n) (outputs-rising 0 n.parts) i j o o less e f))
    go (inr (inr more)) = absurd (no (rising-at (all_outputs n) (outputs-rising 0 n.parts) j i o o more f e))
