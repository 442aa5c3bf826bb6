-- The graph whose order is that of the outputs: nets, and behind them the outputs. An output leads to the nets that it
-- reads, and a net to the outputs that drive it.
use Rattle.std.specs.Prelude.{◌≡◌, ℕ, ◌+◌, ◌-◌, ◌<◌, ◌↔◌, nat_lt, Bool, true, false, Option, None, List, [], ◌∷◌, ◌++◌, length, map, replicate, Some, slice_get, slice_index_or, slice_set, if◌then◌else◌}
use Rattle.std.specs.List.{flat_map}
use Rattle.lg_graph.specs.Graph.{HasArrow}
use Rattle.lg_netlist.specs.declared.netlist.Cell.TheVariants.{Not}
use Rattle.lg_netlist.specs.declared.netlist.PartUse.{PartUse}
use Rattle.lg_netlist.specs.declared.netlist.Netlist.{Netlist}
use Rattle.lg_netlist.specs.Cell.{reads}
use Rattle.lg_netlist.specs.Drivers.{numbered}
use Rattle.lg_netlist.specs.Chain.{Output, Drives, Reads}

-- the outputs of a part
abbrev pub part_outputs : ℕ × PartUse → List Output
part_outputs p = map (λ (o : ℕ × List ℕ). (p.0, o.0)) (numbered p.1.outputs)

-- all outputs, part by part
abbrev pub all_outputs : Netlist → List Output
all_outputs n = flat_map part_outputs (numbered n.parts)

-- the graph of nets and outputs
pub record IsNetGraph (n : Netlist) (graph : List (List ℕ)) : Type 0 where
  pub size : length graph ≡ n.nets + length (all_outputs n)
  pub from_net : (net to : ℕ) → net < n.nets →
      HasArrow graph net to ↔ ((k : ℕ) × (o : Output) × (slice_get (all_outputs n) k ≡ Some o) × (to ≡ n.nets + k) × Drives n o net)
  pub from_output : (k : ℕ) (o : Output) (net : ℕ) → slice_get (all_outputs n) k ≡ Some o → HasArrow graph (n.nets + k) net ↔ Reads n o net

-- the outputs among some nodes of that graph
abbrev pub outputs_among : ℕ → List Output → List ℕ → List Output
outputs_among nets outputs nodes =
    flat_map (λ node. if nat_lt node nets then [] else slice_index_or outputs (node - nets) (0, 0) ∷ []) nodes

-- the nets that an output of a part reads
abbrev pub read_nets : PartUse → ℕ → List ℕ
read_nets p output = flat_map (λ (i : ℕ × List ℕ). if reads p.cell output i.0 then i.1 else []) (numbered p.inputs)

-- a graph with an arrow to a node from each of these nets
abbrev pub with_arrows : ℕ → List ℕ → List (List ℕ) → List (List ℕ)
with_arrows node [] graph = graph
with_arrows node (net ∷ bits) graph = with_arrows node bits (slice_set graph net (slice_index_or graph net [] ++ node ∷ []))

-- the part of an output
abbrev pub part_of : List PartUse → Output → PartUse
part_of parts o = slice_index_or parts o.0 no_part
  where
    no_part : PartUse
    no_part = record { name = []; cell = Not; inputs = []; outputs = [] }

-- the net bits of an output
abbrev pub bits_of : List PartUse → Output → List ℕ
bits_of parts o = slice_index_or ((part_of parts o).outputs) o.1 []

-- a graph with an arrow from each net to each of these outputs that drive it; the first has this node
abbrev pub with_outputs : List PartUse → ℕ → List Output → List (List ℕ) → List (List ℕ)
with_outputs parts node [] graph = graph
with_outputs parts node (o ∷ more) graph =
    with_outputs parts (node + 1) more (with_arrows node (bits_of parts o) graph)

-- the graph of nets and outputs, as it is made
abbrev pub net_graph : Netlist → List (List ℕ)
net_graph n =
    with_outputs n.parts n.nets (all_outputs n) (replicate n.nets []) ++ map (λ o. read_nets (part_of n.parts o) o.1) (all_outputs n)

-- the part of the first of these outputs whose node is marked, or none where none is
pub data IsFirstMarked (nets : ℕ) (outputs : List Output) (marks : List Bool) : Option ℕ → Type 0 where
  Marked : (k : ℕ) (o : Output) → slice_get outputs k ≡ Some o → slice_index_or marks (nets + k) false ≡ true
      → ((j : ℕ) → j < k → slice_index_or marks (nets + j) false ≡ false) → IsFirstMarked nets outputs marks (Some o.0)
  NoneMarked : ((j : ℕ) → j < length outputs → slice_index_or marks (nets + j) false ≡ false) → IsFirstMarked nets outputs marks None
