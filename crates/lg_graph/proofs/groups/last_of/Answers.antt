-- A list is what stands before its last item, and that item.
use Rattle.std.proofs.Common.{◌+◌, ◌-◌, take, sym, ◌∙◌, arith}
use Rattle.std.proofs.lemmas.List.{take_all, take_more}
use Rattle.lg_graph.proofs.groups.last_of.Goals as goal

pub returns : goal.returns
returns c =
    let groups = c.args.groups.now in
    let i = c.len.result - 1 in
    let some = c.requires in
    let len = c.len.ensures in
    (take i groups, rw c.as_slice.ensures (sym (take_all (i + 1) groups (omega arith)) ∙ take_more groups i _ (omega arith)))
