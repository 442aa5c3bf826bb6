use Rattle.std.proofs.Common.{◌≡◌, ℕ, ◌<◌, ◌^◌, List, slice_index_or, sym, ap, subst, ◌∙◌}
use Rattle.std.specs.Prelude.{All}
use Rattle.std.proofs.lemmas.Result.{IfOk-weaker}
use Rattle.lg_vtree.specs.declared.module.Module.{Module}
use Rattle.lg_vmeaning.specs.Solution.{HasOutputs}
use Rattle.lg_vmeaning.specs.Compiled.{IsCompiled}
use Rattle.lg_vmeaning.proofs.RowLemmas.{read_outputs, outputs_small, has_outputs}
use Rattle.lg_vmeaning.proofs.valid_module.Valid.eval.Goals as goal

pub outputs-requires : goal.outputs-requires
outputs-requires c =
    let v = c.self.inside in
    let compiled = subst (λ (m : Module). IsCompiled m v.order v.inputs v.outputs v.machine) c.self.view_is c.self.invariant in
    subst (λ (numbers : List ℕ). All (λ (index : ℕ). slice_index_or numbers index 0 < 2 ^ 64) v.machine.outputs) (sym c.as_slice.ensures.value)
    (outputs_small c.args.self.now v.order v.inputs v.outputs v.machine compiled c.args.regs.now c.requires.regs c.args.inputs.now c.requires.inputs c.in_ok-numbers.numbers.items c.in_ok-numbers.ensures)

pub returns : goal.returns
returns c =
    let v = c.self.inside in
    let compiled = subst (λ (m : Module). IsCompiled m v.order v.inputs v.outputs v.machine) c.self.view_is c.self.invariant in
    IfOk-weaker c.outputs.result (λ outputs. outputs.items ≡ read_outputs c.as_slice.result.now v.machine) (λ outputs. HasOutputs c.args.self.now c.args.regs.now c.args.inputs.now outputs.items)
    (λ outputs is.
    has_outputs c.args.self.now v.order v.inputs v.outputs v.machine compiled c.args.regs.now c.requires.regs c.args.inputs.now c.requires.inputs c.in_ok-numbers.numbers.items c.in_ok-numbers.ensures outputs.items
    (is ∙ ap (λ (numbers : List ℕ). read_outputs numbers v.machine) c.as_slice.ensures.value))
    c.outputs.ensures
