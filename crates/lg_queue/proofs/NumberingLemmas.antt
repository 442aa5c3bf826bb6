-- Numbers of outputs, and the places that they stand for.
use Rattle.std.proofs.Common.{◌≡◌, ℕ, zero, suc, ◌+◌, ◌-◌, ◌<◌, ◌≤◌, List, [], ◌∷◌, ◌++◌, length, take, sum, refl, sym, ap, ◌∙◌, subst, arith, ◌⊎◌, inl, inr}
use Rattle.std.proofs.lemmas.Bool.{cases_lt, lt-ltb, le-ltb}
use Rattle.std.proofs.lemmas.List.Sums.{sum_by-cons}
use Rattle.std.proofs.lemmas.List.{length_push, get_or_append_left, get_or_push}
use Rattle.lg_queue.specs.Numbering.{IsOutput, number_of, next_part, place_of, ArePlaces}

sum-cons : (x : ℕ) (xs : List ℕ) → sum (x ∷ xs) ≡ x + sum xs
sum-cons x xs = sum_by-cons (λ n. n) x xs

place_first : (count n : ℕ) (counts : List ℕ) → n < count → place_of (count ∷ counts) n ≡ (0, n)
unfolding place_of
place_first count n counts h = rw (lt-ltb n count h) refl

place_later : (count n : ℕ) (counts : List ℕ) → count ≤ n → place_of (count ∷ counts) n ≡ next_part (place_of counts (n - count))
unfolding place_of
place_later count n counts h = rw (le-ltb n count h) refl

-- a number leads back to its output
pub place_of-number_of : (outputs : List ℕ) (part output : ℕ) → IsOutput outputs part output → place_of outputs (number_of outputs part output) ≡ (part, output)
place_of-number_of [] part output h = absurd (omega (arith, h.0))
place_of-number_of (count ∷ counts) zero output h =
    let n : 0 + output ≡ output = omega arith in
    ap (place_of (count ∷ counts)) n ∙ place_first count output counts h.1
place_of-number_of (count ∷ counts) (suc part) output h =
    let n = sum (take part counts) + output in
    let all : sum (count ∷ take part counts) + output ≡ count + n = omega (arith, sum-cons count (take part counts)) in
    let rest : count + n - count ≡ n = omega arith in
    ap (place_of (count ∷ counts)) all
    ∙ place_later count (count + n) counts (omega arith)
    ∙ ap (λ m. next_part (place_of counts m)) rest
    ∙ ap next_part (place_of-number_of counts part output (omega (arith, h.0), h.1))

-- each output has a number below the sum
pub number_of-below : (outputs : List ℕ) (part output : ℕ) → IsOutput outputs part output → number_of outputs part output < sum outputs
number_of-below [] part output h = absurd (omega (arith, h.0))
number_of-below (count ∷ counts) zero output h = let inside : output < count = h.1 in omega (arith, inside, sum-cons count counts)
number_of-below (count ∷ counts) (suc part) output h =
    omega (arith, number_of-below counts part output (omega (arith, h.0), h.1), sum-cons count counts, sum-cons count (take part counts))

-- each number below the sum stands for an output
pub place_of-output : (outputs : List ℕ) (n : ℕ) → n < sum outputs → IsOutput outputs (place_of outputs n).0 (place_of outputs n).1
place_of-output [] n h = absurd (omega (arith, h))
place_of-output (count ∷ counts) n h = elim (cases_lt n count) [
  | inl first ↦ subst (λ (p : ℕ × ℕ). IsOutput (count ∷ counts) p.0 p.1) (sym (place_first count n counts first)) (omega arith, first)
  | inr later ↦ subst (λ (p : ℕ × ℕ). IsOutput (count ∷ counts) p.0 p.1) (sym (place_later count n counts later))
      (let k = place_of-output counts (n - count) (omega (arith, h, later, sum-cons count counts)) in (omega (arith, k.0), k.1))
]

-- one place stands before another
abbrev pub ComesBefore : ℕ × ℕ → ℕ × ℕ → Type 0
ComesBefore p q = (p.0 < q.0) ⊎ ((p.0 ≡ q.0) × (p.1 < q.1))

-- numbers and places have one order
pub places_rise : (outputs : List ℕ) (m n : ℕ) → m < n → n < sum outputs → ComesBefore (place_of outputs m) (place_of outputs n)
places_rise [] m n h k = absurd (omega (arith, k))
places_rise (count ∷ counts) m n h k = elim (cases_lt n count) [
  | inl second ↦ subst (λ (p : ℕ × ℕ). ComesBefore p (place_of (count ∷ counts) n)) (sym (place_first count m counts (omega (arith, h, second))))
      (subst (λ (q : ℕ × ℕ). ComesBefore (0, m) q) (sym (place_first count n counts second)) (inr (refl, h)))
  | inr later ↦ subst (λ (q : ℕ × ℕ). ComesBefore (place_of (count ∷ counts) m) q) (sym (place_later count n counts later)) (elim (cases_lt m count) [
    | inl first ↦ subst (λ (p : ℕ × ℕ). ComesBefore p (next_part (place_of counts (n - count)))) (sym (place_first count m counts first)) (inl (omega arith))
    | inr both ↦ subst (λ (p : ℕ × ℕ). ComesBefore p (next_part (place_of counts (n - count)))) (sym (place_later count m counts both))
        (elim (places_rise counts (m - count) (n - count) (omega (arith, h, both)) (omega (arith, k, later, sum-cons count counts))) [
          | inl l ↦ inl (omega (arith, l))
          | inr e ↦ inr (ap suc e.0, e.1)
        ])
  ])
]

-- one place more
pub places_more : (counts : List ℕ) (part output : ℕ) (places : List (ℕ × ℕ)) → ArePlaces counts part output places → IsOutput counts part output
    → ArePlaces counts part (output + 1) (places ++ (part, output) ∷ [])
places_more counts part output places now there =
    let new : List (ℕ × ℕ) = places ++ (part, output) ∷ [] in
    let long : length new ≡ length places + 1 = length_push places (part, output) in
    record {
      all = omega (arith, long, now.all);
      each = λ n inside. elim (cases_lt n (length places)) [
        | inl before ↦ get_or_append_left places ((part, output) ∷ []) (0, 0) n before ∙ now.each n before
        | inr last ↦
            let is : n ≡ length places = omega (arith, inside, last, long) in
            let at : n ≡ number_of counts part output = is ∙ now.all in
            get_or_push places (part, output) (0, 0) n (sym is) ∙ sym (place_of-number_of counts part output there) ∙ ap (place_of counts) (sym at)
      ];
    }
