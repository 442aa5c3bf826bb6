-- The mark that is met is the first.
use Rattle.std.proofs.Common.{◌≡◌, ◌+◌, ◌<◌, ℕ, Bool, true, false, length, get_or, sym, subst, ◌∙◌, arith}
use Rattle.std.proofs.lemmas.List.{get_or_default}
use Rattle.std.proofs.lemmas.Option.{slice_get-get_or}
use Rattle.lg_netlist.specs.Graph.{Marked, NoneMarked}
use Rattle.lg_netlist.proofs.order.first_marked.Goals as goal

pub returns-then-marks-nets : goal.returns-then-marks-nets
returns-then-marks-nets c =
    let outputs = c.args.outputs.now in
    let k = c.loop-number.number in
    Marked k (get_or outputs k (0, 0)) (slice_get-get_or outputs k (0, 0) c.loop-number-test.true) c.if-marks-nets.true c.loop-number.invariant

pub returns : goal.returns
returns c = NoneMarked (λ j less. c.loop-number.invariant j (omega arith))
