-- One input more: the latest on its nets, where it is read.
use Rattle.std.proofs.Common.{◌≡◌, ◌<◌, length, get_or, sym, subst, ◌∙◌, ap, List, ℕ, arith}
use Rattle.lg_netlist.specs.Longest.{latest}
use Rattle.lg_netlist.proofs.LongestLemmas.{latest_read, latest_unread}
use Rattle.lg_netlist.proofs.longest.arrival_at.Goals as goal
use Rattle.lg_netlist.proofs.longest.arrival_at.Goals.{then-reads, else-reads}

pub loop-input-preserved : goal.loop-input-preserved
loop-input-preserved c =
    let arrivals = c.args.arrivals.now in
    let part = c.args.part.now in
    let input = c.loop-input.input in
    let bits = c.bits-item.result in
    let inside : input < length part.inputs = subst (λ (xs : List (List ℕ)). input < length xs) c.as_slice-bits-items.ensures c.loop-input-test.true in
    let is : bits ≡ get_or part.inputs input bits = c.bits-item.is ∙ ap (λ (xs : List (List ℕ)). get_or xs input bits) c.as_slice-bits-items.ensures in
    let so_far = c.loop-input.invariant in
    elim c.if-reads.branch [
      | then-reads w ↦
          let step = latest_read arrivals part c.args.output input bits inside is (sym c.reads.ensures ∙ w.if-reads.true) in
          let here : w.latest.result ≡ latest arrivals bits = w.latest.ensures ∙ ap (latest arrivals) w.as_slice.ensures in
          let grown = w.max-arrival.ensures in
          let new = w.arrival-is in
          omega arith
      | else-reads w ↦
          let step = latest_unread arrivals part c.args.output input bits inside is (sym c.reads.ensures ∙ w.if-reads.false) in
          let new = w.arrival-is in
          omega arith
    ]
