-- The last group is the one that was popped.
use Rattle.std.proofs.Common.{◌≤◌, length, sym, subst, ◌∙◌}
use Rattle.std.proofs.lemmas.List.{same_from_push}
use Rattle.lg_graph.specs.declared.groups.Group.{Group}
use Rattle.lg_graph.proofs.search.Search.close.Goals as goal

pub finish-requires-clause-within : goal.finish-requires-clause-within
finish-requires-clause-within c =
    let same = same_from_push c.requires.before c.pop.new.self c.requires.last c.in-Some.group (sym c.requires.groups ∙ c.in-Some.ensures) in
    subst (λ (g : Group). g.first ≤ length c.args.self.now.path) same.1 c.requires.within

pub finish-requires-clause-on_path : goal.finish-requires-clause-on_path
finish-requires-clause-on_path c = c.requires.on_path

pub finish-requires-clause-marks : goal.finish-requires-clause-marks
finish-requires-clause-marks c = c.requires.marks
