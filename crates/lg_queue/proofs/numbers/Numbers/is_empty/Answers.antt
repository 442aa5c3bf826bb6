use Rattle.std.proofs.Common.{◌≡◌, ◌↔◌, subst, true, []}
use Rattle.lg_queue.specs.NumberSet.{NumberSet}
use Rattle.lg_queue.proofs.NumberLemmas.{empty_list}
use Rattle.lg_queue.proofs.numbers.Numbers.is_empty.Goals as goal

pub returns : goal.returns
returns c =
    subst (λ (s : NumberSet). (c.is_empty.result ≡ true) ↔ (s.numbers ≡ [])) c.self.view_is (empty_list c.self.inside.levels.numbers.items c.is_empty.result c.is_empty.ensures)
