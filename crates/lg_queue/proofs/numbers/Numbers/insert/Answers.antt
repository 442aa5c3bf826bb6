use Rattle.std.proofs.Common.{◌<◌, ap, ◌∙◌, sym, subst}
use Rattle.lg_queue.specs.NumberSet.{NumberSet, with_number}
use Rattle.lg_queue.proofs.NumberLemmas.{list_added}
use Rattle.lg_queue.proofs.numbers.Numbers.insert.Goals as goal

pub returns : goal.returns
returns c =
    list_added c.args.number c.self.inside.levels.numbers.items c.insert.new.levels.numbers.items
    (subst (λ (s : NumberSet). c.args.number < s.room) (sym c.self.view_is) c.requires) c.insert.ensures.added
    ∙ ap (with_number c.args.number) c.self.view_is
