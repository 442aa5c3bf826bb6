-- Gates that invert others, the order of inputs, and gates of few inputs.
use Rattle.std.proofs.Common.{◌≡◌, ℕ, zero, suc, ◌+◌, ◌%◌, ◌==◌, ◌<◌, Bool, true, false, cond, List, [], ◌∷◌, Option, None, Some, length, get_or, map, replicate, sum_by, sym, refl, ap, ◌∙◌, arith}
use Rattle.std.specs.Prelude.{◌&&◌, ◌||◌, not, is_none}
use Rattle.std.specs.List.{list_all, list_any, range_with_len}
use Rattle.std.specs.List.Sorted.{IsPermutation}
use Rattle.std.proofs.lemmas.List.{length-map}
use Rattle.std.proofs.lemmas.List.Sorted.{list_any-IsPermutation, sum_by-IsPermutation}
use Rattle.std.proofs.lemmas.List.Sums.{sum_by-cons, count_by-le-length}
use Rattle.lg_value.specs.declared.bit.Bit.{Bit}
use Rattle.lg_value.specs.declared.bit.Bit.TheVariants.{Zero, One, Unknown, Error}
use Rattle.lg_value.specs.Bit.{same_bit, is_defined_bit, not_bit}
use Rattle.lg_gates.specs.declared.gates.GateKind.{GateKind}
use Rattle.lg_gates.specs.declared.gates.GateKind.TheVariants.{And, Or, Nand, Nor, XorOne, XorOdd, XnorOne, XnorOdd, OddParity, EvenParity}
use Rattle.lg_gates.specs.Gate.{some_zero, some_one, all_defined, ones, bit_of, gate_bit, attached, lacks_inputs, gate_word}
use Rattle.lg_gates.specs.Shape.{not_word}
use Rattle.lg_gates.proofs.GateLemmas.{seen}

map_agree : {A : Type 0} (f g : A → Bit) → ((x : A) → f x ≡ g x) → (xs : List A) → map f xs ≡ map g xs
map_agree f g same [] = refl
map_agree f g same (x ∷ xs) = rw (same x, map_agree f g same xs) refl

map_through : {A : Type 0} (f g : A → Bit) (h : Bit → Bit) → ((x : A) → f x ≡ h (g x)) → (xs : List A) → map f xs ≡ map h (map g xs)
map_through f g h same [] = refl
map_through f g h same (x ∷ xs) = rw (same x, map_through f g h same xs) refl

map-replicate : (h : Bit → Bit) (n : ℕ) (b : Bit) → map h (replicate n b) ≡ replicate n (h b)
map-replicate h zero b = refl
map-replicate h (suc n) b = ap (λ (l : List Bit). h b ∷ l) (map-replicate h n b)

-- a gate that inverts each bit inverts the word
pub gate_word-inverted : (kind other : GateKind) → ((bits : List Bit) → gate_bit kind bits ≡ not_bit (gate_bit other bits)) → (width : ℕ) (inputs : List (Option (List Bit))) (strict : Bool) → gate_word kind width inputs strict ≡ not_word (gate_word other width inputs strict)
unfolding gate_word
gate_word-inverted kind other inverts width inputs strict =
    elim (lacks_inputs strict inputs) as (λ b. cond b (replicate width Error) (map (λ place. gate_bit kind (seen place inputs)) (range_with_len 0 width)) ≡ map not_bit (cond b (replicate width Error) (map (λ place. gate_bit other (seen place inputs)) (range_with_len 0 width)))) [
      | true ↦ sym (map-replicate not_bit width Error)
      | false ↦ map_through (λ place. gate_bit kind (seen place inputs)) (λ place. gate_bit other (seen place inputs)) not_bit (λ place. inverts (seen place inputs)) (range_with_len 0 width)
    ]

-- gates that agree on each place's bits agree on the word
pub gate_word-agree : (kind other : GateKind) (width : ℕ) (inputs others : List (Option (List Bit))) (strict : Bool) → lacks_inputs strict inputs ≡ lacks_inputs strict others → ((place : ℕ) → gate_bit kind (seen place inputs) ≡ gate_bit other (seen place others)) → gate_word kind width inputs strict ≡ gate_word other width others strict
unfolding gate_word
gate_word-agree kind other width inputs others strict same agree =
    ap (λ (b : Bool). cond b (replicate width Error) (map (λ place. gate_bit kind (seen place inputs)) (range_with_len 0 width))) same
    ∙ ap (cond (lacks_inputs strict others) (replicate width Error)) (map_agree (λ place. gate_bit kind (seen place inputs)) (λ place. gate_bit other (seen place others)) agree (range_with_len 0 width))

few : (n : ℕ) → n < 3 → (n == 1) ≡ (n % 2 == 1)
few zero h = refl
few (suc zero) h = refl
few (suc (suc zero)) h = refl
few (suc (suc (suc n))) h = absurd (omega (arith, h))

ones_few : (place : ℕ) (inputs : List (Option (List Bit))) → length (attached inputs) < 3 → ones (seen place inputs) < 3
ones_few place inputs h =
    omega (arith, count_by-le-length (same_bit One) (seen place inputs), length-map (attached inputs) (λ (word : List Bit). get_or word place Unknown))

exactly_one-odd : (bits : List Bit) → ones bits < 3 → gate_bit XorOne bits ≡ gate_bit XorOdd bits
exactly_one-odd bits h = ap (λ (b : Bool). cond (all_defined bits) (bit_of b) Error) (few (ones bits) h)

-- with fewer than three attached inputs exactly one is 1 where an odd number is
pub one_and_odd : (width : ℕ) (inputs : List (Option (List Bit))) (strict : Bool) → length (attached inputs) < 3 → gate_word XorOne width inputs strict ≡ gate_word XorOdd width inputs strict
one_and_odd width inputs strict h =
    gate_word-agree XorOne XorOdd width inputs inputs strict refl (λ place. exactly_one-odd (seen place inputs) (ones_few place inputs h))

pub xnor_one_and_odd : (width : ℕ) (inputs : List (Option (List Bit))) (strict : Bool) → length (attached inputs) < 3 → gate_word XnorOne width inputs strict ≡ gate_word XnorOdd width inputs strict
xnor_one_and_odd width inputs strict h =
    gate_word-agree XnorOne XnorOdd width inputs inputs strict refl (λ place. ap not_bit (exactly_one-odd (seen place inputs) (ones_few place inputs h)))

-- whether an input is attached and its bit at a place passes a test
passes : (Bit → Bool) → ℕ → Option (List Bit) → Bool
passes test place None = false
passes test place (Some word) = test (get_or word place Unknown)

any_seen : (test : Bit → Bool) (place : ℕ) (inputs : List (Option (List Bit))) → list_any test (seen place inputs) ≡ list_any (passes test place) inputs
unfolding passes
any_seen test place [] = refl
any_seen test place (None ∷ inputs) = any_seen test place inputs
any_seen test place (Some word ∷ inputs) = ap (λ (b : Bool). test (get_or word place Unknown) || b) (any_seen test place inputs)

none_fails : {A : Type 0} (test : A → Bool) (xs : List A) → list_all test xs ≡ not (list_any (λ x. not (test x)) xs)
none_fails test [] = refl
none_fails test (x ∷ xs) =
    ap (λ (b : Bool). test x && b) (none_fails test xs)
    ∙ (elim (test x) as (λ t. (t && not (list_any (λ y. not (test y)) xs)) ≡ not (not t || list_any (λ y. not (test y)) xs)) [ true ↦ refl | false ↦ refl ])

weight : ℕ → Option (List Bit) → ℕ
weight place None = 0
weight place (Some word) = cond (same_bit One (get_or word place Unknown)) 1 0

ones_seen : (place : ℕ) (inputs : List (Option (List Bit))) → ones (seen place inputs) ≡ sum_by (weight place) inputs
unfolding weight
ones_seen place [] = refl
ones_seen place (None ∷ inputs) =
    let e = ones_seen place inputs in
    let unweighed : sum_by (weight place) (None ∷ inputs) ≡ 0 + sum_by (weight place) inputs = sum_by-cons (weight place) None inputs in
    omega arith
ones_seen place (Some word ∷ inputs) =
    sum_by-cons (λ (b : Bit). cond (same_bit One b) 1 0) (get_or word place Unknown) (seen place inputs)
    ∙ ap (λ (n : ℕ). weight place (Some word) + n) (ones_seen place inputs)
    ∙ sym (sum_by-cons (weight place) (Some word) inputs)

any_same : (test : Bit → Bool) (place : ℕ) (inputs other : List (Option (List Bit))) → IsPermutation inputs other → list_any test (seen place inputs) ≡ list_any test (seen place other)
any_same test place inputs other h =
    any_seen test place inputs ∙ list_any-IsPermutation (passes test place) inputs other h ∙ sym (any_seen test place other)

all_same : {A : Type 0} (test : A → Bool) (xs ys : List A) → list_any (λ x. not (test x)) xs ≡ list_any (λ x. not (test x)) ys → list_all test xs ≡ list_all test ys
all_same test xs ys h = none_fails test xs ∙ ap not h ∙ sym (none_fails test ys)

-- what bits hold decides what a gate answers
gate_bit-same : (kind : GateKind) (a b : List Bit) → some_zero a ≡ some_zero b → some_one a ≡ some_one b → all_defined a ≡ all_defined b → ones a ≡ ones b → gate_bit kind a ≡ gate_bit kind b
gate_bit-same And a b z o d n = rw (z, d) refl
gate_bit-same Or a b z o d n = rw (o, d) refl
gate_bit-same Nand a b z o d n = rw (z, d) refl
gate_bit-same Nor a b z o d n = rw (o, d) refl
gate_bit-same XorOne a b z o d n = rw (d, n) refl
gate_bit-same XorOdd a b z o d n = rw (d, n) refl
gate_bit-same XnorOne a b z o d n = rw (d, n) refl
gate_bit-same XnorOdd a b z o d n = rw (d, n) refl
gate_bit-same OddParity a b z o d n = rw (d, n) refl
gate_bit-same EvenParity a b z o d n = rw (d, n) refl

lacks_same : (strict : Bool) (inputs other : List (Option (List Bit))) → IsPermutation inputs other → lacks_inputs strict inputs ≡ lacks_inputs strict other
lacks_same strict inputs other h =
    let some_same = list_any-IsPermutation is_none inputs other h in
    let none_same = all_same is_none inputs other (list_any-IsPermutation (λ (o : Option (List Bit)). not (is_none o)) inputs other h) in
    rw (some_same, none_same) refl

-- the order of the inputs does not matter
pub gate_word-IsPermutation : (kind : GateKind) (width : ℕ) (inputs other : List (Option (List Bit))) (strict : Bool) → IsPermutation inputs other → gate_word kind width other strict ≡ gate_word kind width inputs strict
gate_word-IsPermutation kind width inputs other strict h =
    sym (gate_word-agree kind kind width inputs other strict (lacks_same strict inputs other h)
    (λ place. gate_bit-same kind (seen place inputs) (seen place other)
    (any_same (same_bit Zero) place inputs other h)
    (any_same (same_bit One) place inputs other h)
    (all_same is_defined_bit (seen place inputs) (seen place other) (any_same (λ b. not (is_defined_bit b)) place inputs other h))
    (ones_seen place inputs ∙ sym (sum_by-IsPermutation (weight place) inputs other h) ∙ sym (ones_seen place other))))
