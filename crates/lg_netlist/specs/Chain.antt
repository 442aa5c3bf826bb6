-- Chains: outputs of parts that read one another. Source: combinational paths of synchronous design, with the delays of this
-- project.
use Rattle.std.specs.Prelude.{◌≡◌, ℕ, ◌+◌, ◌<◌, ◌≤◌, true, List, [], ◌∷◌, ◌++◌, length, ◌⊎◌, slice_get, slice_index_or, Option, Some, None, Contains}
use Rattle.lg_netlist.specs.declared.netlist.PartUse.{PartUse}
use Rattle.lg_netlist.specs.declared.netlist.Netlist.{Netlist}
use Rattle.lg_netlist.specs.Cell.{delay_of, reads}

-- an output of a part: the numbers of both
abbrev pub Output : Type 0
Output = ℕ × ℕ

-- there is such an output
abbrev pub IsOutput : Netlist → Output → Type 0
IsOutput n o = (p : PartUse) × (slice_get n.parts o.0 ≡ Some p) × (o.1 < length p.outputs)

-- the output drives a net: a bit of it is on the net
pub record Drives (n : Netlist) (o : Output) (net : ℕ) : Type 0 where
  pub part : PartUse
  pub bits : List ℕ
  pub is_part : slice_get n.parts o.0 ≡ Some part
  pub is_output : slice_get part.outputs o.1 ≡ Some bits
  pub on : Contains bits net

-- the output reads a net: it depends on an input that has a bit on the net
pub record Reads (n : Netlist) (o : Output) (net : ℕ) : Type 0 where
  pub part : PartUse
  pub input : ℕ
  pub bits : List ℕ
  pub is_part : slice_get n.parts o.0 ≡ Some part
  pub is_input : slice_get part.inputs input ≡ Some bits
  pub reads : reads part.cell o.1 input ≡ true
  pub on : Contains bits net

-- one output reads what another drives
pub record Follows (n : Netlist) (earlier later : Output) : Type 0 where
  pub is_earlier : IsOutput n earlier
  pub is_later : IsOutput n later
  pub net : ℕ
  pub driven : Drives n earlier net
  pub read : Reads n later net

-- a chain, listed from its end back: each output follows the next one in the list
abbrev pub IsChain : Netlist → List Output → Type 0
IsChain n [] = ⊥
IsChain n (o ∷ []) = IsOutput n o
IsChain n (o ∷ earlier ∷ more) = Follows n earlier o × IsChain n (earlier ∷ more)

-- the delay of an output's part
abbrev pub output_delay : Netlist → Output → ℕ
output_delay n o = delay_at (slice_get n.parts o.0)
  where
    delay_at : Option PartUse → ℕ
    delay_at None = 0
    delay_at (Some p) = delay_of p.cell

-- the sum of the delays along a chain
abbrev pub chain_delay : Netlist → List Output → ℕ
chain_delay n [] = 0
chain_delay n (o ∷ earlier) = output_delay n o + chain_delay n earlier

-- the greatest sum of delays along a chain; 0 where there is no chain
pub record IsLongest (n : Netlist) (delay : ℕ) : Type 0 where
  pub most : (chain : List Output) → IsChain n chain → chain_delay n chain ≤ delay
  pub reached : ((chain : List Output) × IsChain n chain × (chain_delay n chain ≡ delay)) ⊎ ((delay ≡ 0) × ((o : Output) → IsOutput n o → ⊥))

-- a chain leads from an output back to it
abbrev pub IsOnCycle : Netlist → Output → Type 0
IsOnCycle n o = (between : List Output) × IsChain n (o ∷ between ++ o ∷ [])

-- the first part with an output on a cycle
pub record IsFirstOnCycle (n : Netlist) (part : ℕ) : Type 0 where
  pub output : ℕ
  pub on_cycle : IsOnCycle n (part, output)
  pub first : (o : Output) → IsOnCycle n o → part ≤ o.0

-- the output stands before a place in a list
abbrev pub StandsBefore : List Output → ℕ → Output → Type 0
StandsBefore outputs place o = (before : ℕ) × (before < place) × (slice_get outputs before ≡ Some o)

-- all outputs of parts, each once, and each after those that it follows
pub record IsOrder (n : Netlist) (outputs : List Output) : Type 0 where
  pub each : (o : Output) → IsOutput n o → StandsBefore outputs (length outputs) o
  pub only : (i : ℕ) (o : Output) → slice_get outputs i ≡ Some o → IsOutput n o
  pub once : (i j : ℕ) (o : Output) → slice_get outputs i ≡ Some o → slice_get outputs j ≡ Some o → i ≡ j
  pub after : (i : ℕ) (o earlier : Output) → slice_get outputs i ≡ Some o → Follows n earlier o → StandsBefore outputs i earlier
