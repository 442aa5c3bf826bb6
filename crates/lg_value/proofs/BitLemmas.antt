-- Laws of bits, proved by trying every bit.
use Rattle.std.proofs.Common.{◌≡◌, Bool, true, false, refl}
use Rattle.std.specs.Prelude.{◌&&◌}
use Rattle.std.specs.Bool.{Decides}
use Rattle.lg_value.specs.declared.bit.Bit.{Bit}
use Rattle.lg_value.specs.declared.bit.Bit.TheVariants.{Zero, One, Unknown, Error}
use Rattle.lg_value.specs.Bit.{same_bit, join_bits, equal_from_same_bit, same_bit_refl}

-- whether each bit passes
abbrev pub each_bit : (Bit → Bool) → Bool
each_bit test = test Zero && (test One && (test Unknown && test Error))

-- whether both truth values pass
abbrev pub each_bool : (Bool → Bool) → Bool
each_bool test = test true && test false

-- both of two tests passed
pub both : (p q : Bool) → (p && q) ≡ true → (p ≡ true) × (q ≡ true)
both true true h = (refl, refl)
both true false h = (refl, h)
both false q h = absurd (cc h)

-- a test that each bit passes holds of a given bit
pub at_bit : (test : Bit → Bool) → each_bit test ≡ true → (b : Bit) → test b ≡ true
at_bit test h b =
    let zero = both (test Zero) (test One && (test Unknown && test Error)) h in
    let one = both (test One) (test Unknown && test Error) zero.1 in
    let last = both (test Unknown) (test Error) one.1 in
    elim b as (λ x. test x ≡ true) [ Zero ↦ zero.0 | One ↦ one.0 | Unknown ↦ last.0 | Error ↦ last.1 ]

-- a test that both truth values pass holds of a given one
pub at_bool : (test : Bool → Bool) → each_bool test ≡ true → (b : Bool) → test b ≡ true
at_bool test h b =
    let parts = both (test true) (test false) h in
    elim b as (λ x. test x ≡ true) [ true ↦ parts.0 | false ↦ parts.1 ]

pub join_bits_comm : (a b : Bit) → join_bits a b ≡ join_bits b a
join_bits_comm a b =
    let test : Bit → Bit → Bool = λ x y. same_bit (join_bits x y) (join_bits y x) in
    equal_from_same_bit (join_bits a b) (join_bits b a) (at_bit (test a) (at_bit (λ x. each_bit (test x)) refl a) b)

pub join_bits_assoc : (a b c : Bit) → join_bits (join_bits a b) c ≡ join_bits a (join_bits b c)
join_bits_assoc a b c =
    let test : Bit → Bit → Bit → Bool = λ x y z. same_bit (join_bits (join_bits x y) z) (join_bits x (join_bits y z)) in
    equal_from_same_bit (join_bits (join_bits a b) c) (join_bits a (join_bits b c))
    (at_bit (test a b)
    (at_bit (λ y. each_bit (test a y))
    (at_bit (λ x. each_bit (λ y. each_bit (test x y))) refl a)
    b)
    c)

pub join_bits_same : (a : Bit) → join_bits a a ≡ a
join_bits_same a = elim a as (λ x. join_bits x x ≡ x) [ Zero ↦ refl | One ↦ refl | Unknown ↦ refl | Error ↦ refl ]

pub join_bits_unknown : (a : Bit) → join_bits a Unknown ≡ a
join_bits_unknown a = elim a as (λ x. join_bits x Unknown ≡ x) [ Zero ↦ refl | One ↦ refl | Unknown ↦ refl | Error ↦ refl ]

-- the test for being the same bit decides it
pub Decides-same_bit : (a b : Bit) → Decides (same_bit a b) (a ≡ b)
Decides-same_bit a b = (equal_from_same_bit a b, λ e. rw e (same_bit_refl b))
