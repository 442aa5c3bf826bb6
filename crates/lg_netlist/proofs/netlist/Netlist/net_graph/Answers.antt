-- Each output is one of the netlist, and its part fits.
use Rattle.std.proofs.Common.{◌≡◌, ◌+◌, ◌<◌, ◌≤◌, ◌^◌, ℕ, List, [], length, get_or, drop, vec_len, sym, subst, ◌∙◌, ap, arith}
use Rattle.std.specs.Prelude.{slice_get, Some}
use Rattle.std.proofs.lemmas.List.{at_drop_more}
use Rattle.std.proofs.lemmas.Option.{slice_get-get_or}
use Rattle.lg_netlist.specs.Chain.{Output, IsOutput}
use Rattle.lg_netlist.specs.declared.netlist.Netlist.{Netlist}
use Rattle.lg_netlist.specs.Graph.{all_outputs, with_arrows, with_outputs, bits_of}
use Rattle.lg_netlist.specs.Valid.{AreNets}
use Rattle.lg_netlist.proofs.OutputLemmas.{output_at}
use Rattle.lg_netlist.proofs.NetGraphLemmas.{few_inputs, bits_are_nets, length-with_arrows}
use Rattle.lg_netlist.proofs.netlist.Netlist.net_graph.Goals as goal

-- the output of a turn is one of the netlist
is_output : (n : Netlist) (outputs : List Output) (k : ℕ) → outputs ≡ all_outputs n → k < length outputs → IsOutput n (get_or outputs k (0, 0))
is_output n outputs k e less = output_at n k (get_or outputs k (0, 0)) (subst (λ (xs : List Output). slice_get xs k ≡ Some (get_or outputs k (0, 0))) e (slice_get-get_or outputs k (0, 0) less))

pub bits_of-requires : goal.bits_of-requires
bits_of-requires c = is_output c.args.self.now c.args.outputs.now c.loop-number.number c.requires c.loop-number-test.true

pub put_driven-requires : goal.put_driven-requires
put_driven-requires c =
    let n = c.args.self.now in
    let o = get_or c.args.outputs.now c.loop-number.number (0, 0) in
    let size : vec_len c.loop-number.graph ≡ n.nets = c.loop-number.graph.ok.0 ∙ c.loop-number.invariant.nodes in
    subst (λ (xs : List ℕ). AreNets (vec_len c.loop-number.graph) xs) (sym c.bits_of.ensures.value)
    (subst (λ (s : ℕ). AreNets s (bits_of n.parts o)) (sym size) (bits_are_nets n o (is_output n c.args.outputs.now c.loop-number.number c.requires c.loop-number-test.true)))

pub loop-number-preserved : goal.loop-number-preserved
loop-number-preserved c =
    let n = c.args.self.now in
    let outputs = c.args.outputs.now in
    let k = c.loop-number.number in
    let o = get_or outputs k (0, 0) in
    let graph = c.loop-number.graph.items in
    let put : c.put_driven.new.graph.items ≡ with_arrows (n.nets + k) (bits_of n.parts o) graph =
    c.in_ok-put_driven.ensures ∙ ap (λ (xs : List ℕ). with_arrows (n.nets + k) xs graph) c.bits_of.ensures.value in
    let step : with_outputs n.parts (n.nets + k) (drop k outputs) graph ≡ with_outputs n.parts (n.nets + k + 1) (drop (k + 1) outputs) (with_arrows (n.nets + k) (bits_of n.parts o) graph) =
    at_drop_more (λ (xs : List Output). with_outputs n.parts (n.nets + k) xs graph) outputs k (0, 0) c.loop-number-test.true in
    record {
      arrows = ap (λ (g : List (List ℕ)). with_outputs n.parts (n.nets + (k + 1)) (drop (k + 1) outputs) g) put
          ∙ (ap (λ (i : ℕ). with_outputs n.parts i (drop (k + 1) outputs) (with_arrows (n.nets + k) (bits_of n.parts o) graph)) (omega arith) ∙ (sym step ∙ c.loop-number.invariant.arrows));
      nodes = ap length put ∙ (length-with_arrows (n.nets + k) (bits_of n.parts o) graph ∙ c.loop-number.invariant.nodes);
    }

pub part_of-requires : goal.part_of-requires
part_of-requires c = is_output c.args.self.now c.args.outputs.now c.loop-output.output-index c.requires c.loop-output-test.true

pub read_nets-requires : goal.read_nets-requires
read_nets-requires c = few_inputs c.args.self.now.nets c.part_of.result.now c.part_of.ensures.fits
