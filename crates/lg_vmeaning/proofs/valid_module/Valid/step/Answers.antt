use Rattle.std.proofs.Common.{ℕ, ◌<◌, ◌^◌, List, slice_index_or, sym, ap, subst, ◌∙◌}
use Rattle.std.specs.Prelude.{All}
use Rattle.lg_vtree.specs.declared.module.Module.{Module}
use Rattle.lg_vmachine.specs.Machine.{stored_by}
use Rattle.lg_vmeaning.specs.Compiled.{IsCompiled}
use Rattle.lg_vmeaning.proofs.RowLemmas.{read_outputs, outputs_small, is_step}
use Rattle.lg_vmeaning.proofs.valid_module.Valid.step.Goals as goal

pub outputs-requires : goal.outputs-requires
outputs-requires c =
    let v = c.self.inside in
    let compiled = subst (λ (m : Module). IsCompiled m v.order v.inputs v.outputs v.machine) c.self.view_is c.self.invariant in
    subst (λ (numbers : List ℕ). All (λ (index : ℕ). slice_index_or numbers index 0 < 2 ^ 64) v.machine.outputs) (sym c.as_slice.ensures.value)
    (outputs_small c.args.self.now v.order v.inputs v.outputs v.machine compiled c.args.regs.now c.requires.regs c.args.row.now c.requires.inputs c.in_ok-numbers.numbers.items c.in_ok-numbers.ensures)

pub returns : goal.returns
returns c =
    let v = c.self.inside in
    let compiled = subst (λ (m : Module). IsCompiled m v.order v.inputs v.outputs v.machine) c.self.view_is c.self.invariant in
    is_step c.args.self.now v.order v.inputs v.outputs v.machine compiled c.args.regs.now c.requires.regs c.args.row.now c.requires.inputs c.in_ok-numbers.numbers.items c.in_ok-numbers.ensures
    c.in_ok-outputs.outputs.items c.store.new.regs
    (c.in_ok-outputs.ensures ∙ ap (λ (numbers : List ℕ). read_outputs numbers v.machine) c.as_slice.ensures.value)
    (c.in_ok-store.ensures.ok ∙ ap (λ (numbers : List ℕ). stored_by v.machine numbers c.args.regs.now) c.as_slice-2.ensures.value)
