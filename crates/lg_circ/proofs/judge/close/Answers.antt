use Rattle.std.proofs.Common.{◌∙◌, sym}
use Rattle.lg_circ.specs.Seen.{view_names}
use Rattle.lg_circ.proofs.Growing.{names_popped, closes, closes_not}
use Rattle.lg_circ.proofs.judge.close.Goals as goal

pub returns-then-eq : goal.returns-then-eq
returns-then-eq c =
    closes (view_names c.args.names.now.items) (view_names c.pop.new.self.items) c.in-Some.last.now c.args.name.now (names_popped c.args.names.now.items c.pop.new.self.items c.in-Some.last c.in-Some.ensures.items) (sym c.eq.ensures ∙ c.if-eq.true)

pub returns-else-eq : goal.returns-else-eq
returns-else-eq c =
    closes_not (view_names c.args.names.now.items) (view_names c.pop.new.self.items) c.in-Some.last.now c.args.name.now (names_popped c.args.names.now.items c.pop.new.self.items c.in-Some.last c.in-Some.ensures.items) (sym c.eq.ensures ∙ c.if-eq.false)
