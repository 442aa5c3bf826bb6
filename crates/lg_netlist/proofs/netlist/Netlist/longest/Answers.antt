-- The outputs come in order: so each is met with the longest chain that ends in it.
use Rattle.std.proofs.Common.{◌≡◌, ◌+◌, ◌*◌, ◌<◌, ◌≤◌, ◌^◌, ℕ, List, length, get_or, max, sym, subst, ◌∙◌, ap, arith, Some}
use Rattle.std.specs.Prelude.{slice_get}
use Rattle.std.proofs.lemmas.Option.{slice_get-get_or}
use Rattle.lg_netlist.specs.declared.netlist.Netlist.{Netlist}
use Rattle.lg_netlist.specs.declared.netlist.PartUse.{PartUse}
use Rattle.lg_netlist.specs.Chain.{Output, IsOutput, IsOrder}
use Rattle.lg_netlist.specs.Cell.{delay_of}
use Rattle.lg_netlist.specs.Graph.{read_nets, part_of, bits_of}
use Rattle.lg_netlist.specs.Longest.{latest, raised}
use Rattle.lg_netlist.specs.Valid.{AreNets}
use Rattle.lg_netlist.proofs.LongestLemmas.{AreArrivals, IsRaised, IsRaised-made, length-raised, next, finish, order_short, latest_low, written}
use Rattle.lg_netlist.proofs.netlist.Netlist.longest.Goals as goal

-- what stands in an order is an output
is_output : (n : Netlist) (items outputs : List Output) (place : ℕ) → IsOrder n outputs → items ≡ outputs → place < length items → IsOutput n (get_or items place (0, 0))
is_output n items outputs place order same less =
    (subst (IsOrder n) (sym same) order).only place (get_or items place (0, 0)) (slice_get-get_or items place (0, 0) less)

pub part_of-part-requires : goal.part_of-part-requires
part_of-part-requires c =
    is_output c.args.self.now c.deref-output-items.result.now c.in_ok-order.order.items c.loop-output.output-index c.in_ok-order.ensures.order c.deref-output-items.ensures.value c.loop-output-test.true

pub bits_of-requires : goal.bits_of-requires
bits_of-requires c =
    is_output c.args.self.now c.deref-output-items.result.now c.in_ok-order.order.items c.loop-output.output-index c.in_ok-order.ensures.order c.deref-output-items.ensures.value c.loop-output-test.true

-- sums stay small, as there are few parts
fits : (n : Netlist) (outputs : List Output) (place : ℕ) (arrivals : List ℕ) (longest : ℕ) (nets : List ℕ) → IsOrder n outputs → place < length outputs
    → AreArrivals n outputs place arrivals longest → latest arrivals nets + 255 < 2 ^ 64
fits n outputs place arrivals longest nets order less are =
    let short = order_short n outputs order in
    let few = n.valid.few_parts in
    let low = latest_low arrivals nets (255 * place) are.net_low in
    omega arith

pub overflow_add-delay : goal.overflow_add-delay
overflow_add-delay c =
    let outputs = c.deref-output-items.result.now in
    let order = subst (IsOrder c.args.self.now) (sym c.deref-output-items.ensures.value) c.in_ok-order.ensures.order in
    let low = fits c.args.self.now outputs c.loop-output.output-index c.loop-output.arrivals.items c.loop-output.longest
    (read_nets c.part_of-part.result.now (get_or outputs c.loop-output.output-index (0, 0)).1) order c.loop-output-test.true c.loop-output.invariant.are in
    let arrival : c.arrival_at-arrival.result ≡ latest c.loop-output.arrivals.items (read_nets c.part_of-part.result.now (get_or outputs c.loop-output.output-index (0, 0)).1) =
    c.arrival_at-arrival.ensures ∙ ap (λ (xs : List ℕ). latest xs (read_nets c.part_of-part.result.now (get_or outputs c.loop-output.output-index (0, 0)).1)) c.as_slice.ensures.value in
    let most = c.delay.ensures.most in
    let same = c.from.ensures in
    omega arith

-- the delay of the longest chain that ends in an output
delays : (n : Netlist) (o : Output) (part : PartUse) (slice arrivals : List ℕ) (arrival own : ℕ) → part ≡ part_of n.parts o → slice ≡ arrivals
    → arrival ≡ latest slice (read_nets part o.1) → own ≡ delay_of part.cell
    → arrival + own ≡ latest arrivals (read_nets (part_of n.parts o) o.1) + delay_of ((part_of n.parts o).cell)
delays n o part slice arrivals arrival own part_is slice_is arrival_is own_is =
    let first : arrival ≡ latest arrivals (read_nets (part_of n.parts o) o.1) =
    arrival_is ∙ (ap (λ (xs : List ℕ). latest xs (read_nets part o.1)) slice_is ∙ ap (λ (p : PartUse). latest arrivals (read_nets p o.1)) part_is) in
    let second : own ≡ delay_of ((part_of n.parts o).cell) = own_is ∙ ap (λ (p : PartUse). delay_of p.cell) part_is in
    omega arith

pub loop-output-preserved : goal.loop-output-preserved
loop-output-preserved c =
    let n = c.args.self.now in
    let outputs = c.deref-output-items.result.now in
    let place = c.loop-output.output-index in
    let arrivals = c.loop-output.arrivals.items in
    let o = get_or outputs place (0, 0) in
    let bits = bits_of n.parts o in
    let order : IsOrder n outputs = subst (IsOrder n) (sym c.deref-output-items.ensures.value) c.in_ok-order.ensures.order in
    let at : slice_get outputs place ≡ Some o = slice_get-get_or outputs place (0, 0) c.loop-output-test.true in
    let part_is = c.part_of-part.ensures.value in
    let delay = c.arrival_at-arrival.result + c.from.result in
    let delay_is : delay ≡ latest arrivals (read_nets (part_of n.parts o) o.1) + delay_of ((part_of n.parts o).cell) =
    delays n o c.part_of-part.result.now c.as_slice.result.now arrivals c.arrival_at-arrival.result c.from.result part_is c.as_slice.ensures.value c.arrival_at-arrival.ensures (c.from.ensures ∙ c.delay.ensures.value) in
    let short : delay_of ((part_of n.parts o).cell) ≤ 255 =
    subst (λ (k : ℕ). k ≤ 255) (c.delay.ensures.value ∙ ap (λ (p : PartUse). delay_of p.cell) part_is) c.delay.ensures.most in
    let raised_is : c.raise.new.arrivals ≡ raised delay bits arrivals =
    c.raise.ensures ∙ (ap (λ (xs : List ℕ). raised delay xs c.as_mut_slice.result.now) c.bits_of.ensures.value ∙ ap (raised delay bits) c.as_mut_slice.ensures.value) in
    let within : AreNets (length arrivals) bits = subst (λ (k : ℕ). AreNets k bits) (sym c.loop-output.invariant.nets) (subst (AreNets n.nets) c.bits_of.ensures.value c.bits_of.ensures.within) in
    let up : IsRaised delay bits arrivals c.raise.new.arrivals = subst (IsRaised delay bits arrivals) (sym raised_is) (IsRaised-made delay bits arrivals within) in
    let long : length c.raise.new.arrivals ≡ length arrivals = ap length raised_is ∙ length-raised delay bits arrivals in
    let back = written c.loop-output.arrivals.len arrivals c.raise.new.arrivals long (sym (ap length c.as_slice.ensures.value) ∙ c.as_slice.ensures.len) in
    let longest : c.max-longest.result ≡ max c.loop-output.longest delay = c.max-longest.ensures in
    record {
      are = subst (λ (xs : List ℕ). AreArrivals n outputs (place + 1) xs c.max-longest.result) (sym back)
          (subst (AreArrivals n outputs (place + 1) c.raise.new.arrivals) (sym longest) (next n outputs place arrivals c.raise.new.arrivals c.loop-output.longest delay o order c.loop-output.invariant.are at delay_is short up));
      nets = ap length back ∙ (long ∙ c.loop-output.invariant.nets);
    }

pub returns-clause-longest : goal.returns-clause-longest
returns-clause-longest c =
    let outputs = c.deref-output-items.result.now in
    let order = subst (IsOrder c.args.self.now) (sym c.deref-output-items.ensures.value) c.in_ok-order.ensures.order in
    let past = c.loop-output-test.false in
    let end = c.loop-output.auto.output-index-end in
    let all : c.loop-output.output-index ≡ length outputs = omega arith in
    finish c.args.self.now outputs c.loop-output.arrivals.items c.loop-output.longest order
    (subst (λ (k : ℕ). AreArrivals c.args.self.now outputs k c.loop-output.arrivals.items c.loop-output.longest) all c.loop-output.invariant.are)
