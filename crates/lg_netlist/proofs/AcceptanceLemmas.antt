-- What the first two drivers of a net say of it.
use Rattle.std.proofs.Common.{◌≡◌, ℕ, suc, ◌+◌, ◌-◌, ◌<◌, List, [], ◌∷◌, get_or, refl, sym, subst, ap, ◌∙◌, arith, ◌⊎◌, inl, inr, Option, None, Some}
use Rattle.std.specs.Prelude.{All}
use Rattle.std.specs.List.{range_with_len}
use Rattle.std.specs.Option.{option_or}
use Rattle.std.proofs.lemmas.List.Elements.{All-head, All-tail}
use Rattle.std.proofs.lemmas.Option.{same_Some}
use Rattle.lg_netlist.specs.declared.acceptance.NotAccepted.{NotAccepted}
use Rattle.lg_netlist.specs.declared.acceptance.NotAccepted.TheVariants as refusal
use Rattle.lg_netlist.specs.declared.drivers.Driver.{Driver}
use Rattle.lg_netlist.specs.declared.first_two.FirstTwo.{FirstTwo}
use Rattle.lg_netlist.specs.declared.netlist.Netlist.{Netlist}
use Rattle.lg_netlist.specs.Acceptance.{first_said, driver_name, contested_by}
use Rattle.lg_netlist.specs.Drivers.{drivers, IsDriver}
use Rattle.lg_netlist.specs.FirstTwo.{no_driver, two_of, AreFirstTwo}
use Rattle.lg_netlist.proofs.DriverLemmas.{drivers_are}

-- what is said of a net by its first two drivers
pub data NetSaid (n : Netlist) (net : ℕ) (two : FirstTwo) : Type 0 where
  Two : (a b : Driver) → two.first ≡ Some a → two.second ≡ Some b → IsDriver n a → IsDriver n b
      → contested_by n net (drivers n net) ≡ Some (refusal.ManyDrivers net (driver_name n a) (driver_name n b)) → NetSaid n net two
  Fewer : (two.first ≡ None) ⊎ (two.second ≡ None) → contested_by n net (drivers n net) ≡ None → NetSaid n net two

pub net_said : (n : Netlist) (net : ℕ) → NetSaid n net (two_of (drivers n net))
net_said n net = go (drivers n net) refl
  where
    go : (ds : List Driver) → drivers n net ≡ ds → NetSaid n net (two_of (drivers n net))
    go [] e = subst (λ (ds : List Driver). NetSaid n net (two_of ds)) (sym e) (Fewer (inl refl) (ap (contested_by n net) e))
    go (a ∷ []) e = subst (λ (ds : List Driver). NetSaid n net (two_of ds)) (sym e) (Fewer (inr refl) (ap (contested_by n net) e))
    go (a ∷ b ∷ more) e =
        let are = subst (λ (ds : List Driver). All (IsDriver n) ds) e (drivers_are n net) in
        subst (λ (ds : List Driver). NetSaid n net (two_of ds)) (sym e)
        (Two a b refl refl (All-head (IsDriver n) a (b ∷ more) are) (All-head (IsDriver n) b more (All-tail (IsDriver n) a (b ∷ more) are)) (ap (contested_by n net) e))

-- both of them are drivers of the netlist
pub two_drivers : (n : Netlist) (net : ℕ) (two : FirstTwo) (a b : Driver) → two ≡ two_of (drivers n net) → two.first ≡ Some a → two.second ≡ Some b → IsDriver n a × IsDriver n b
two_drivers n net two a b e first second = go (subst (λ (t : FirstTwo). NetSaid n net t) (sym e) (net_said n net))
  where
    go : NetSaid n net two → IsDriver n a × IsDriver n b
    go (Two x y f s is_x is_y said) =
        let same_a : Some x ≡ Some a = sym f ∙ first in
        let same_b : Some y ≡ Some b = sym s ∙ second in
        (subst (IsDriver n) (same_Some x a same_a) is_x, subst (IsDriver n) (same_Some y b same_b) is_y)
    go (Fewer (inl none) said) = let no : None ≡ Some a = sym none ∙ first in absurd (cc)
    go (Fewer (inr none) said) = let no : None ≡ Some b = sym none ∙ second in absurd (cc)

-- what is said of the numbers that are left, where nothing is said of the next one
pub said_later : (B : Type 0) (says : ℕ → Option B) (i n : ℕ) → i < n → says i ≡ None
    → first_said says (range_with_len (i + 1) (n - (i + 1))) ≡ first_said says (range_with_len i (n - i))
said_later B says i n less none =
    let more : n - i ≡ suc (n - (i + 1)) = omega arith in
    sym (ap (λ (k : ℕ). first_said says (range_with_len i k)) more ∙ ap (λ (o : Option B). option_or o (first_said says (range_with_len (i + 1) (n - (i + 1))))) none)
