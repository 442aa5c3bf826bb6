-- When the loop has ended, no flags are left.
use Rattle.std.proofs.Common.{◌≡◌, [], ◌++◌, List, sym, ap, ◌∙◌}
use Rattle.std.specs.Iterator.Adapters.{zip_first, zip_second}
use Rattle.std.specs.List.{zip}
use Rattle.std.specs.Slice.Iter.{iter_rest}
use Rattle.std.proofs.lemmas.List.{append-nil}
use Rattle.lg_flatten.specs.Uses.{Use}
use Rattle.lg_flatten.proofs.UseLemmas.{zip_ended}
use Rattle.lg_flatten.specs.Flat.{take_nets}
use Rattle.lg_flatten.proofs.bits.take_nets.Goals as goal

pub returns : goal.returns
returns c =
    let it = c.loop-comp._comp-iterator in
    let none : zip (iter_rest (zip_first it)) (iter_rest (zip_second it)) ≡ [] = zip_ended it c.next.new.self c.in-None.ensures.steps in
    sym (append-nil c.loop-comp.takes.items) ∙ (ap (λ (uses : List Use). c.loop-comp.takes.items ++ take_nets uses c.loop-comp.rest.now) (sym none) ∙ c.loop-comp.invariant.value)
