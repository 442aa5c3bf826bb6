-- The first two drivers of each net: private words of the code's clauses.
use Rattle.std.specs.Prelude.{◌≡◌, ℕ, ◌<◌, List, [], ◌∷◌, length, Option, Some, None, slice_index_or}
use Rattle.lg_netlist.specs.declared.drivers.Driver.{Driver}
use Rattle.lg_netlist.specs.declared.first_two.FirstTwo.{FirstTwo}
use Rattle.lg_netlist.specs.declared.netlist.Netlist.{Netlist}
use Rattle.lg_netlist.specs.Drivers.{drivers, on_net}

abbrev pub no_driver : FirstTwo
no_driver = record { first = None; second = None }

-- the first two of some drivers
abbrev pub two_of : List Driver → FirstTwo
two_of [] = no_driver
two_of (a ∷ []) = record { first = Some a; second = None }
two_of (a ∷ b ∷ more) = record { first = Some a; second = Some b }

-- with one driver more, behind those that are there
abbrev pub with_driver : FirstTwo → Driver → FirstTwo
with_driver two driver = put two.first two.second
  where
    put : Option Driver → Option Driver → FirstTwo
    put None second = record { first = Some driver; second = second }
    put (Some a) None = record { first = Some a; second = Some driver }
    put (Some a) (Some b) = record { first = Some a; second = Some b }

-- for each net the first two of these drivers that are on it
pub record AreTwoOf (nets : ℕ) (all : List (ℕ × Driver)) (twos : List FirstTwo) : Type 0 where
  pub one_each : length twos ≡ nets
  pub two_each : (net : ℕ) → net < nets → slice_index_or twos net no_driver ≡ two_of (on_net net all)

-- for each net its first two drivers
pub record AreFirstTwo (n : Netlist) (twos : List FirstTwo) : Type 0 where
  pub one_each : length twos ≡ n.nets
  pub two_each : (net : ℕ) → net < n.nets → slice_index_or twos net no_driver ≡ two_of (drivers n net)
