-- Masks, and shifts that leave nothing.
use Rattle.std.proofs.Common.{◌≡◌, ℕ, ◌-◌, ◌+◌, ◌*◌, ◌/◌, ◌%◌, ◌^◌, ◌<◌, ◌≤◌, min, bit_and, sym, ap, ◌∙◌, arith, ◌⊎◌, inl, inr}
use Rattle.std.proofs.lemmas.Bool.{cases_lt}
use Rattle.std.proofs.Math.Nat.{mod-eq_of_lt, div-eq_of_lt, mul-mod_left, pow-le-pow_right, min-eq_left, min-eq_right}
use Rattle.std.proofs.lemmas.Nat.{and_mask, pow-add}

-- what is below a power of two is below each greater one
pub below_more : (n k j : ℕ) → n < 2 ^ k → k ≤ j → n < 2 ^ j
below_more n k j small le = omega (arith, small, pow-le-pow_right {n = 2} (omega arith) le)

pub mask_cuts : (n k w : ℕ) → n < 2 ^ k → bit_and n (2 ^ min w k - 1) ≡ n % 2 ^ w
mask_cuts n k w small = by_order (cases_lt w k)
  where
    by_order : (w < k) ⊎ (k ≤ w) → bit_and n (2 ^ min w k - 1) ≡ n % 2 ^ w
    by_order (inl lt) = ap (λ j. bit_and n (2 ^ j - 1)) (min-eq_left (omega arith)) ∙ and_mask n w
    by_order (inr le) =
        ap (λ j. bit_and n (2 ^ j - 1)) (min-eq_right le)
        ∙ (and_mask n k ∙ (mod-eq_of_lt small ∙ sym (mod-eq_of_lt (below_more n k w small le))))

pub all_lost : (n k by : ℕ) → k ≤ by → n * 2 ^ by % 2 ^ k ≡ 0
all_lost n k by le =
    let split : by ≡ by - k + k = omega (arith, le) in
    let apart : n * 2 ^ by ≡ n * 2 ^ (by - k) * 2 ^ k = ap (λ j. n * 2 ^ j) split ∙ (ap (λ x. n * x) (pow-add 2 (by - k) k) ∙ omega arith) in
    ap (λ x. x % 2 ^ k) apart ∙ mul-mod_left (n * 2 ^ (by - k)) (2 ^ k)

pub none_left : (n k by : ℕ) → n < 2 ^ k → k ≤ by → n / 2 ^ by ≡ 0
none_left n k by small le = div-eq_of_lt (below_more n k by small le)
