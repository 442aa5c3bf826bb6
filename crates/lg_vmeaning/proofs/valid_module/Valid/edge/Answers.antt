use Rattle.std.proofs.Common.{List, ℕ, sym, ap, subst, ◌∙◌}
use Rattle.std.specs.Prelude.{Result, Ok, Err, OnOk, OnErr}
use Rattle.std.proofs.lemmas.Result.{on_ok_weaker, on_err_weaker}
use Rattle.lg_vtree.specs.declared.module.Module.{Module}
use Rattle.lg_vmachine.specs.Machine.{stored_by}
use Rattle.lg_vmeaning.specs.Solution.{IsOf}
use Rattle.lg_vmeaning.specs.Compiled.{IsCompiled}
use Rattle.lg_vmeaning.proofs.RowLemmas.{is_after_edge, fits_again}
use Rattle.lg_vmeaning.proofs.valid_module.Valid.edge.Goals as goal

-- what holds of a value and of an error holds
either_way : {T E P : Type 0} (r : Result T E) → OnOk r P → OnErr r P → P
either_way (Ok x) of_value of_error = of_value
either_way (Err e) of_value of_error = of_error

pub returns-clause-ok : goal.returns-clause-ok
returns-clause-ok c =
    let v = c.self.inside in
    let compiled = subst (λ (m : Module). IsCompiled m v.order v.inputs v.outputs v.machine) c.self.view_is c.self.invariant in
    on_ok_weaker c.store.result
    (λ is.
    is_after_edge c.args.self.now v.order v.inputs v.outputs v.machine compiled c.args.regs.now c.requires.regs c.args.inputs.now c.requires.inputs c.in_ok-numbers.numbers.items c.in_ok-numbers.ensures c.store.new.regs
    (is ∙ ap (λ (numbers : List ℕ). stored_by v.machine numbers c.args.regs.now) c.as_slice.ensures.value))
    c.store.ensures.ok

pub returns-clause-fits : goal.returns-clause-fits
returns-clause-fits c =
    let v = c.self.inside in
    let compiled = subst (λ (m : Module). IsCompiled m v.order v.inputs v.outputs v.machine) c.self.view_is c.self.invariant in
    let stored = on_ok_weaker c.store.result
    (λ is.
    fits_again c.args.self.now v.order v.inputs v.outputs v.machine compiled c.args.regs.now c.requires.regs c.args.inputs.now c.requires.inputs c.in_ok-numbers.numbers.items c.in_ok-numbers.ensures c.store.new.regs
    (is ∙ ap (λ (numbers : List ℕ). stored_by v.machine numbers c.args.regs.now) c.as_slice.ensures.value))
    c.store.ensures.ok in
    either_way {P = IsOf c.args.self.now c.store.new.regs} c.store.result stored (on_err_weaker c.store.result (λ same. subst (IsOf c.args.self.now) (sym same) c.requires.regs) c.store.ensures.err)
