use Rattle.std.proofs.Common.{subst}
use Rattle.lg_vtree.specs.declared.module.Module.{Module}
use Rattle.lg_vrules.specs.Things.{lines_of, is_input}
use Rattle.lg_vresolve.specs.Meaning.{Valuation}
use Rattle.lg_vmeaning.specs.Solution.{AreNumbers, IsOf, IsTheSolution}
use Rattle.lg_vmeaning.proofs.ValidLemmas.{one_solution}
use Rattle.lg_vmeaning.proofs.valid_module.Valid.order.Goals as goal

pub returns-clause-one_solution : goal.returns-clause-one_solution
returns-clause-one_solution c = λ kept row.
    subst (λ (m : Module). IsOf m kept → AreNumbers (lines_of is_input m) row → (value : Valuation) × IsTheSolution m kept row value) c.self.view_is
    (one_solution c.self.inside.«module» c.self.inside.order c.self.invariant.valid.rules c.self.invariant.order kept row)
