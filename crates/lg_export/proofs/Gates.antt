-- What a gate's equation says of numbers of one bit is what the gate answers to bits.
use Rattle.std.proofs.Common.{◌≡◌, ℕ, zero, suc, ◌-◌, ◌<◌, List, [], ◌∷◌, map, refl, sym, ap, subst, ◌∙◌, arith, inl, inr, ◌⊎◌, lit<}
use Rattle.std.specs.Prelude.{bit_and, bit_or}
use Rattle.std.specs.List.{AllByRecursion}
use Rattle.lg_value.specs.declared.bit.Bit.{Bit}
use Rattle.lg_value.specs.declared.bit.Bit.TheVariants.{Zero, One, Error}
use Rattle.lg_value.specs.Bit.{digit_of, not_bit}
use Rattle.lg_value.specs.Word.{number_of}
use Rattle.lg_value.proofs.WordLemmas.{number_of_one}
use Rattle.lg_netlist.specs.declared.netlist.Cell.{Cell}
use Rattle.lg_netlist.specs.declared.netlist.Cell.TheVariants as cell
use Rattle.lg_gates.specs.Gate.{and_bit, or_bit}
use Rattle.lg_vresolve.specs.Meaning.{Valuation}
use Rattle.lg_export.proofs.Equations.{folded, gate_number}

-- 0 and 1
pub IsBit-cases : (k : ℕ) → k < 2 → (k ≡ 0) ⊎ (k ≡ 1)
IsBit-cases zero h = inl refl
IsBit-cases (suc zero) h = inr refl
IsBit-cases (suc (suc k)) h = absurd (omega (arith, h))

-- from bits it gives a bit
abbrev pub StaysBit : (ℕ → ℕ → ℕ) → Type 0
StaysBit step = (a b : ℕ) → a < 2 → b < 2 → step a b < 2

pub bit_and-stays : StaysBit bit_and
bit_and-stays zero b ha hb = lit< tt
bit_and-stays (suc zero) zero ha hb = lit< tt
bit_and-stays (suc zero) (suc zero) ha hb = lit< tt
bit_and-stays (suc zero) (suc (suc b)) ha hb = absurd (omega (arith, hb))
bit_and-stays (suc (suc a)) b ha hb = absurd (omega (arith, ha))

pub bit_or-stays : StaysBit bit_or
bit_or-stays zero zero ha hb = lit< tt
bit_or-stays zero (suc zero) ha hb = lit< tt
bit_or-stays zero (suc (suc b)) ha hb = absurd (omega (arith, hb))
bit_or-stays (suc zero) zero ha hb = lit< tt
bit_or-stays (suc zero) (suc zero) ha hb = lit< tt
bit_or-stays (suc zero) (suc (suc b)) ha hb = absurd (omega (arith, hb))
bit_or-stays (suc (suc a)) b ha hb = absurd (omega (arith, ha))

folded_small : (step : ℕ → ℕ → ℕ) (v : Valuation) (k : ℕ) (names : List (List ℕ)) → StaysBit step → k < 2 → AllByRecursion (λ name. v name < 2) names → folded step v k names < 2
folded_small step v k [] stays low small = low
folded_small step v k (name ∷ names) stays low small = folded_small step v (step k (v name)) names stays (stays k (v name) low small.0) small.1

pub gate_number_small : (c : Cell) (v : Valuation) (name : List ℕ) (names : List (List ℕ)) → v name < 2 → AllByRecursion (λ other. v other < 2) names → gate_number c v name names < 2
gate_number_small cell.Not v name names low small = omega arith
gate_number_small cell.And v name names low small = folded_small bit_and v (v name) names bit_and-stays low small
gate_number_small cell.Or v name names low small = folded_small bit_or v (v name) names bit_or-stays low small

-- the bit that a number of one bit stands for
abbrev pub bit_of_digit : ℕ → Bit
bit_of_digit zero = Zero
bit_of_digit (suc k) = One

abbrev pub IsDefinedBit : Bit → Type 0
IsDefinedBit b = (b ≡ Zero) ⊎ (b ≡ One)

pub bit_is_defined : (k : ℕ) → IsDefinedBit (bit_of_digit k)
bit_is_defined zero = inl refl
bit_is_defined (suc k) = inr refl

pub number_of-bit : (k : ℕ) → k < 2 → number_of (bit_of_digit k ∷ []) ≡ k
number_of-bit k low = number_of_one (bit_of_digit k) ∙ by (IsBit-cases k low)
  where
    by : (k ≡ 0) ⊎ (k ≡ 1) → digit_of (bit_of_digit k) ≡ k
    by (inl e) = rw e refl
    by (inr e) = rw e refl

pub bit-number_of : (b : Bit) → IsDefinedBit b → bit_of_digit (number_of (b ∷ [])) ≡ b
bit-number_of b h = ap bit_of_digit (number_of_one b) ∙ by h
  where
    by : (b ≡ Zero) ⊎ (b ≡ One) → bit_of_digit (digit_of b) ≡ b
    by (inl e) = rw e refl
    by (inr e) = rw e refl

pub number_of-small : (b : Bit) → IsDefinedBit b → number_of (b ∷ []) < 2
number_of-small b h = subst (λ (k : ℕ). k < 2) (sym (number_of_one b)) (by h)
  where
    by : (b ≡ Zero) ⊎ (b ≡ One) → digit_of b < 2
    by (inl e) = rw e (omega arith)
    by (inr e) = rw e (omega arith)

and_step : (k j : ℕ) (rest : List Bit) → (k ≡ 0) ⊎ (k ≡ 1) → (j ≡ 0) ⊎ (j ≡ 1)
    → and_bit (bit_of_digit k ∷ bit_of_digit j ∷ rest) ≡ and_bit (bit_of_digit (bit_and k j) ∷ rest)
and_step k j rest (inl e) (inl f) = ap (λ (a : ℕ). and_bit (bit_of_digit a ∷ bit_of_digit j ∷ rest)) e ∙ sym (ap (λ (a : ℕ). and_bit (bit_of_digit (bit_and a j) ∷ rest)) e)
and_step k j rest (inl e) (inr f) = ap (λ (a : ℕ). and_bit (bit_of_digit a ∷ bit_of_digit j ∷ rest)) e ∙ sym (ap (λ (a : ℕ). and_bit (bit_of_digit (bit_and a j) ∷ rest)) e)
and_step k j rest (inr e) (inl f) =
    (ap (λ (a : ℕ). and_bit (bit_of_digit a ∷ bit_of_digit j ∷ rest)) e ∙ ap (λ (b : ℕ). and_bit (bit_of_digit 1 ∷ bit_of_digit b ∷ rest)) f)
    ∙ sym (ap (λ (a : ℕ). and_bit (bit_of_digit (bit_and a j) ∷ rest)) e ∙ ap (λ (b : ℕ). and_bit (bit_of_digit (bit_and 1 b) ∷ rest)) f)
and_step k j rest (inr e) (inr f) =
    (ap (λ (a : ℕ). and_bit (bit_of_digit a ∷ bit_of_digit j ∷ rest)) e ∙ ap (λ (b : ℕ). and_bit (bit_of_digit 1 ∷ bit_of_digit b ∷ rest)) f)
    ∙ sym (ap (λ (a : ℕ). and_bit (bit_of_digit (bit_and a j) ∷ rest)) e ∙ ap (λ (b : ℕ). and_bit (bit_of_digit (bit_and 1 b) ∷ rest)) f)

or_step : (k j : ℕ) (rest : List Bit) → (k ≡ 0) ⊎ (k ≡ 1) → (j ≡ 0) ⊎ (j ≡ 1)
    → or_bit (bit_of_digit k ∷ bit_of_digit j ∷ rest) ≡ or_bit (bit_of_digit (bit_or k j) ∷ rest)
or_step k j rest (inl e) (inl f) =
    (ap (λ (a : ℕ). or_bit (bit_of_digit a ∷ bit_of_digit j ∷ rest)) e ∙ ap (λ (b : ℕ). or_bit (bit_of_digit 0 ∷ bit_of_digit b ∷ rest)) f)
    ∙ sym (ap (λ (a : ℕ). or_bit (bit_of_digit (bit_or a j) ∷ rest)) e ∙ ap (λ (b : ℕ). or_bit (bit_of_digit (bit_or 0 b) ∷ rest)) f)
or_step k j rest (inl e) (inr f) =
    (ap (λ (a : ℕ). or_bit (bit_of_digit a ∷ bit_of_digit j ∷ rest)) e ∙ ap (λ (b : ℕ). or_bit (bit_of_digit 0 ∷ bit_of_digit b ∷ rest)) f)
    ∙ sym (ap (λ (a : ℕ). or_bit (bit_of_digit (bit_or a j) ∷ rest)) e ∙ ap (λ (b : ℕ). or_bit (bit_of_digit (bit_or 0 b) ∷ rest)) f)
or_step k j rest (inr e) (inl f) =
    (ap (λ (a : ℕ). or_bit (bit_of_digit a ∷ bit_of_digit j ∷ rest)) e ∙ ap (λ (b : ℕ). or_bit (bit_of_digit 1 ∷ bit_of_digit b ∷ rest)) f)
    ∙ sym (ap (λ (a : ℕ). or_bit (bit_of_digit (bit_or a j) ∷ rest)) e ∙ ap (λ (b : ℕ). or_bit (bit_of_digit (bit_or 1 b) ∷ rest)) f)
or_step k j rest (inr e) (inr f) =
    (ap (λ (a : ℕ). or_bit (bit_of_digit a ∷ bit_of_digit j ∷ rest)) e ∙ ap (λ (b : ℕ). or_bit (bit_of_digit 1 ∷ bit_of_digit b ∷ rest)) f)
    ∙ sym (ap (λ (a : ℕ). or_bit (bit_of_digit (bit_or a j) ∷ rest)) e ∙ ap (λ (b : ℕ). or_bit (bit_of_digit (bit_or 1 b) ∷ rest)) f)

step_small : (step : ℕ → ℕ → ℕ) (k j : ℕ) → StaysBit step → (k ≡ 0) ⊎ (k ≡ 1) → (j ≡ 0) ⊎ (j ≡ 1) → step k j < 2
step_small step k j stays hk hj = stays k j (low k hk) (low j hj)
  where
    low : (a : ℕ) → (a ≡ 0) ⊎ (a ≡ 1) → a < 2
    low a (inl e) = omega (arith, e)
    low a (inr e) = omega (arith, e)

-- the bits of some names
abbrev pub bits_of : Valuation → List (List ℕ) → List Bit
bits_of v names = map (λ name. bit_of_digit (v name)) names

abbrev pub AreSmall : Valuation → List (List ℕ) → Type 0
AreSmall v names = AllByRecursion (λ name. v name < 2) names

and_bits : (v : Valuation) (k : ℕ) (names : List (List ℕ)) → k < 2 → AreSmall v names → and_bit (bit_of_digit k ∷ bits_of v names) ≡ bit_of_digit (folded bit_and v k names)
and_bits v k [] low small = by (IsBit-cases k low)
  where
    by : (k ≡ 0) ⊎ (k ≡ 1) → and_bit (bit_of_digit k ∷ []) ≡ bit_of_digit k
    by (inl e) = rw e refl
    by (inr e) = rw e refl
and_bits v k (name ∷ names) low small =
    let hk = IsBit-cases k low in
    let hj = IsBit-cases (v name) small.0 in
    and_step k (v name) (bits_of v names) hk hj ∙ and_bits v (bit_and k (v name)) names (step_small bit_and k (v name) bit_and-stays hk hj) small.1

or_bits : (v : Valuation) (k : ℕ) (names : List (List ℕ)) → k < 2 → AreSmall v names → or_bit (bit_of_digit k ∷ bits_of v names) ≡ bit_of_digit (folded bit_or v k names)
or_bits v k [] low small = by (IsBit-cases k low)
  where
    by : (k ≡ 0) ⊎ (k ≡ 1) → or_bit (bit_of_digit k ∷ []) ≡ bit_of_digit k
    by (inl e) = rw e refl
    by (inr e) = rw e refl
or_bits v k (name ∷ names) low small =
    let hk = IsBit-cases k low in
    let hj = IsBit-cases (v name) small.0 in
    or_step k (v name) (bits_of v names) hk hj ∙ or_bits v (bit_or k (v name)) names (step_small bit_or k (v name) bit_or-stays hk hj) small.1

not_bit-digit : (k : ℕ) → k < 2 → not_bit (bit_of_digit k) ≡ bit_of_digit (1 - k)
not_bit-digit k low = by (IsBit-cases k low)
  where
    by : (k ≡ 0) ⊎ (k ≡ 1) → not_bit (bit_of_digit k) ≡ bit_of_digit (1 - k)
    by (inl e) = rw e refl
    by (inr e) = rw e refl

-- the bit that a gate answers to the bits of its inputs
abbrev pub gate_bit : Cell → List Bit → Bit
gate_bit cell.Not [] = Error
gate_bit cell.Not (b ∷ bits) = not_bit b
gate_bit cell.And bits = and_bit bits
gate_bit cell.Or bits = or_bit bits

pub gate_bit-number : (c : Cell) (v : Valuation) (name : List ℕ) (names : List (List ℕ)) → AreSmall v (name ∷ names) → gate_bit c (bits_of v (name ∷ names)) ≡ bit_of_digit (gate_number c v name names)
gate_bit-number cell.Not v name names small = not_bit-digit (v name) small.0
gate_bit-number cell.And v name names small = and_bits v (v name) names small.0 small.1
gate_bit-number cell.Or v name names small = or_bits v (v name) names small.0 small.1
