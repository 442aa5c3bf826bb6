-- Operations: what 128 bits and a cut give is the operation's number, which its width can hold.
use Rattle.std.proofs.Common.{◌≡◌, ℕ, ◌+◌, ◌-◌, ◌*◌, ◌%◌, ◌^◌, ◌<◌, ◌≤◌, nat_eq, nat_lt, Bool, true, false, refl, ap, ◌∙◌, arith, pow_pos}
use Rattle.std.proofs.lemmas.Nat.{or_lt, xor_lt, shr_le, and_le_l, pow-add}
use Rattle.std.proofs.Math.Nat.{mod-le, mod-lt, div-le_self, add-mul-mod_self_right}
use Rattle.std.proofs.Math.Pow.{mod-mod-pow}
use Rattle.lg_vtree.specs.declared.expr.Operator.{Operator}
use Rattle.lg_vtree.specs.declared.expr.Operator.TheVariants as operator
use Rattle.lg_vrules.specs.Rules.{operator_width, is_shift}
use Rattle.lg_vresolve.specs.Meaning.{operator_value}
use Rattle.lg_vmachine.specs.Terms.{number_of_test, wide_operation}

-- a cut to more bits before a cut changes nothing
pub cut_twice : (n k w : ℕ) → w ≤ k → n % 2 ^ k % 2 ^ w ≡ n % 2 ^ w
cut_twice n k w le =
    let split : k ≡ k - w + w = omega (arith, le) in
    ap (λ j. n % 2 ^ j % 2 ^ w) split ∙ mod-mod-pow n (k - w) w

-- a difference is the same at each power of two that is great enough
differ : (a b k w : ℕ) → b < 2 ^ w → w ≤ k → (a + 2 ^ k - b) % 2 ^ w ≡ (a + 2 ^ w - b) % 2 ^ w
differ a b k w small le =
    let split : 2 ^ k ≡ 2 ^ (k - w) * 2 ^ w = (let e : k ≡ k - w + w = omega (arith, le) in ap (λ j. 2 ^ j) e ∙ pow-add 2 (k - w) w) in
    let more : 2 ^ (k - w) ≡ (2 ^ (k - w) - 1) + 1 = omega (arith, pow_pos (k - w)) in
    let parts : 2 ^ (k - w) * 2 ^ w ≡ (2 ^ (k - w) - 1) * 2 ^ w + 2 ^ w = ap (λ x. x * 2 ^ w) more ∙ omega arith in
    let whole : a + 2 ^ k - b ≡ a + 2 ^ w - b + (2 ^ (k - w) - 1) * 2 ^ w = omega (arith, split, parts, small) in
    ap (λ x. x % 2 ^ w) whole ∙ add-mul-mod_self_right (a + 2 ^ w - b) (2 ^ (k - w) - 1) (2 ^ w)

pub wide_is : (op : Operator) (w a b : ℕ) → w ≤ 128 → (is_shift op ≡ false → b < 2 ^ w) → wide_operation op w a b ≡ operator_value op w a b
wide_is operator.And w a b le small = refl
wide_is operator.Or w a b le small = refl
wide_is operator.Xor w a b le small = refl
wide_is operator.Add w a b le small = cut_twice (a + b) 128 w le
wide_is operator.Subtract w a b le small = cut_twice (a + 2 ^ 128 - b) 128 w le ∙ differ a b 128 w (small refl) le
wide_is operator.Multiply w a b le small = cut_twice (a * b) 128 w le
wide_is operator.Divide w a b le small = refl
wide_is operator.Remainder w a b le small = refl
wide_is operator.Equal w a b le small = refl
wide_is operator.Less w a b le small = refl
wide_is operator.ShiftLeft w a b le small = cut_twice (a * 2 ^ b) 128 w le
wide_is operator.ShiftRight w a b le small = refl

test_small : (test : Bool) → number_of_test test < 2
test_small true = omega arith
test_small false = omega arith

pub operator_within : (op : Operator) (w a b : ℕ) → a < 2 ^ w → (is_shift op ≡ false → b < 2 ^ w) → operator_value op w a b < 2 ^ operator_width op w
operator_within operator.And w a b one other = omega (arith, one, and_le_l a b)
operator_within operator.Or w a b one other = or_lt w a b one (other refl)
operator_within operator.Xor w a b one other = xor_lt w a b one (other refl)
operator_within operator.Add w a b one other = mod-lt (a + b) (pow_pos w)
operator_within operator.Subtract w a b one other = mod-lt (a + 2 ^ w - b) (pow_pos w)
operator_within operator.Multiply w a b one other = mod-lt (a * b) (pow_pos w)
operator_within operator.Divide w a b one other = omega (arith, one, div-le_self a b)
operator_within operator.Remainder w a b one other = omega (arith, one, mod-le a b)
operator_within operator.Equal w a b one other = test_small (nat_eq a b)
operator_within operator.Less w a b one other = test_small (nat_lt a b)
operator_within operator.ShiftLeft w a b one other = mod-lt (a * 2 ^ b) (pow_pos w)
operator_within operator.ShiftRight w a b one other = omega (arith, one, shr_le a b)
