-- Four-valued logic, after the Logisim-evolution user guide, "Wire colors": a wire carries a 0, a 1, a
-- floating bit, which nothing drives, or an error.
use Rattle.std.specs.Prelude.{◌≡◌, ℕ, Bool, true, false, ◌||◌, refl}
use Rattle.std.specs.Cmp.{IsEquivalence}
use Rattle.std.proofs.Common.{ap}
use Rattle.lg_value.specs.declared.bit.Bit.{Bit}
use Rattle.lg_value.specs.declared.bit.Bit.TheVariants.{Zero, One, Unknown, Error}

-- whether two bits are the same
abbrev pub same_bit : Bit → Bit → Bool
same_bit Zero Zero = true
same_bit One One = true
same_bit Unknown Unknown = true
same_bit Error Error = true
same_bit _ _ = false

-- 0 or 1
abbrev pub is_defined_bit : Bit → Bool
is_defined_bit bit = same_bit Zero bit || same_bit One bit

-- the inversion of a bit: an undefined one gives an error
abbrev pub not_bit : Bit → Bit
not_bit Zero = One
not_bit One = Zero
not_bit _ = Error

-- AND of two bits: one 0 decides; without one the answer is 1, if both are known to be 1
abbrev pub and_bits : Bit → Bit → Bit
and_bits Zero _ = Zero
and_bits _ Zero = Zero
and_bits One One = One
and_bits _ _ = Error

-- OR of two bits: one 1 decides; without one the answer is 0, if both are known to be 0
abbrev pub or_bits : Bit → Bit → Bit
or_bits One _ = One
or_bits _ One = One
or_bits Zero Zero = Zero
or_bits _ _ = Error

-- XOR of two bits: an undefined bit gives an error, else 1 where they differ
abbrev pub xor_bits : Bit → Bit → Bit
xor_bits Zero Zero = Zero
xor_bits Zero One = One
xor_bits One Zero = One
xor_bits One One = Zero
xor_bits _ _ = Error

-- the bit of a wire that two drivers share: an unknown bit yields to the other, equal bits stay,
-- and all else is an error
abbrev pub join_bits : Bit → Bit → Bit
join_bits Unknown b = b
join_bits a Unknown = a
join_bits Zero Zero = Zero
join_bits One One = One
join_bits _ _ = Error

-- the digit that a bit stands for in a binary number
abbrev pub digit_of : Bit → ℕ
digit_of One = 1
digit_of _ = 0

-- bits that pass the test are the same
pub equal_from_same_bit : (a b : Bit) → same_bit a b ≡ true → a ≡ b
equal_from_same_bit Zero Zero h = refl
equal_from_same_bit One One h = refl
equal_from_same_bit Unknown Unknown h = refl
equal_from_same_bit Error Error h = refl
equal_from_same_bit _ _ h = absurd (cc h)

-- a bit passes the test against itself
pub same_bit_refl : (a : Bit) → same_bit a a ≡ true
same_bit_refl Zero = refl
same_bit_refl One = refl
same_bit_refl Unknown = refl
same_bit_refl Error = refl

same_bit_symm : (a b : Bit) → same_bit a b ≡ same_bit b a
same_bit_symm Zero Zero = refl
same_bit_symm One One = refl
same_bit_symm Unknown Unknown = refl
same_bit_symm Error Error = refl
same_bit_symm _ _ = refl

-- the test is an equivalence
pub same_bit_equiv : IsEquivalence same_bit
same_bit_equiv = record {
  refl = same_bit_refl;
  symm = same_bit_symm;
  congr = λ x y z h. ap (λ a. same_bit a z) (equal_from_same_bit x y h);
}
