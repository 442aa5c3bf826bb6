-- The test for defined bits, and what it says.
use Rattle.std.proofs.Common.{◌≡◌, ℕ, Bool, true, ◌⊎◌, List, refl, inl, inr}
use Rattle.std.specs.Prelude.{replicate, IsTrue, ◌↔◌}
use Rattle.std.specs.Bool.{Decides}
use Rattle.std.proofs.lemmas.Bool.Decides.{Decides-by_and, same_from_decides}
use Rattle.std.proofs.lemmas.List.Elements.{All-replicate}
use Rattle.lg_value.specs.declared.bit.Bit.{Bit}
use Rattle.lg_value.specs.declared.bit.Bit.TheVariants.{Zero, One, Unknown, Error}
use Rattle.lg_value.specs.Bit.{is_defined_bit}
use Rattle.lg_value.specs.Word.{IsDefined}
use Rattle.lg_gates.specs.Gate.{all_defined}

-- the test for a defined bit decides that it is Zero or One
pub Decides-is_defined_bit : (b : Bit) → Decides (is_defined_bit b) ((b ≡ Zero) ⊎ (b ≡ One))
Decides-is_defined_bit Zero = (λ _. inl refl, λ _. refl)
Decides-is_defined_bit One = (λ _. inr refl, λ _. refl)
Decides-is_defined_bit Unknown = (λ h. absurd (cc h), λ h. elim h [ inl e ↦ absurd (cc e) | inr e ↦ absurd (cc e) ])
Decides-is_defined_bit Error = (λ h. absurd (cc h), λ h. elim h [ inl e ↦ absurd (cc e) | inr e ↦ absurd (cc e) ])

-- the test for defined bits decides that they are
pub Decides-all_defined : (bits : List Bit) → Decides (all_defined bits) (IsDefined bits)
Decides-all_defined bits =
    Decides-by_and is_defined_bit (λ bit. (bit ≡ Zero) ⊎ (bit ≡ One)) all_defined Decides-is_defined_bit refl (λ _ _. refl) bits

-- what `defined` answers is the test
pub all_defined-answer : (bits : List Bit) (answer : Bool) → (IsTrue answer ↔ IsDefined bits) → answer ≡ all_defined bits
all_defined-answer bits answer h = same_from_decides answer (all_defined bits) h (Decides-all_defined bits)

-- a word of one defined bit over and over is defined
pub IsDefined-replicate : (width : ℕ) (bit : Bit) → is_defined_bit bit ≡ true → IsDefined (replicate width bit)
IsDefined-replicate width bit h =
    All-replicate (λ b. (b ≡ Zero) ⊎ (b ≡ One)) width bit ((Decides-is_defined_bit bit).0 h)
