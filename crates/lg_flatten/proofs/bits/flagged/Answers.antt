-- When the loop has ended, no labels are left.
use Rattle.std.proofs.Common.{◌≡◌, [], ◌++◌, ℕ, List, sym, ap, ◌∙◌}
use Rattle.std.specs.Iterator.Adapters.{zip_first, zip_second}
use Rattle.std.specs.Slice.Iter.{iter_rest}
use Rattle.std.proofs.lemmas.List.{append-nil}
use Rattle.lg_flatten.proofs.BitLemmas.{flagged_ended}
use Rattle.lg_flatten.specs.Flat.{flagged}
use Rattle.lg_flatten.proofs.bits.flagged.Goals as goal

pub returns : goal.returns
returns c =
    let it = c.loop-flag.flag-iterator in
    let none : flagged (iter_rest (zip_first it)) (iter_rest (zip_second it)) ≡ [] = flagged_ended it c.next.new.self c.in-None.ensures.steps in
    sym (append-nil c.loop-flag.found.items) ∙ (ap (λ (labels : List ℕ). c.loop-flag.found.items ++ labels) (sym none) ∙ c.loop-flag.invariant)
