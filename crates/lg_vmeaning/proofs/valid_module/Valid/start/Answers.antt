use Rattle.std.proofs.Common.{◌≡◌, IfOk, sym, subst}
use Rattle.std.proofs.lemmas.Result.{IfOk-weaker}
use Rattle.lg_vtree.specs.declared.module.Module.{Module}
use Rattle.lg_vmeaning.specs.Rows.{start}
use Rattle.lg_vmeaning.specs.Solution.{IsOf}
use Rattle.lg_vmeaning.proofs.StartLemmas.{start_is_of}
use Rattle.lg_vmeaning.proofs.valid_module.Valid.start.Goals as goal

pub returns-clause-start : goal.returns-clause-start
returns-clause-start c = subst (λ (m : Module). IfOk c.start.result (λ regs. regs ≡ start m)) c.self.view_is c.start.ensures

pub returns-clause-fits : goal.returns-clause-fits
returns-clause-fits c =
    let m = c.self.inside.«module» in
    subst (λ (m : Module). IfOk c.start.result (IsOf m)) c.self.view_is
    (IfOk-weaker c.start.result (λ regs. regs ≡ start m) (IsOf m) (λ regs is. subst (IsOf m) (sym is) (start_is_of m c.self.invariant.valid.rules)) c.start.ensures)
