use Rattle.std.proofs.Common.{◌≡◌, ◌*◌, ap, sym, ◌∙◌, arith}
use Rattle.std.specs.Prelude.{Some}
use Rattle.lg_arith.specs.Count.{least_width}
use Rattle.lg_shapes.proofs.InputLemmas.{sum_by-length}
use Rattle.lg_shapes.proofs.arithmetic.Arithmetic.answer.Goals as goal

pub returns-in-BitAdder-clause-width : goal.returns-in-BitAdder-clause-width
returns-in-BitAdder-clause-width c =
    let x = c.in-BitAdder in
    let less = rw x.is at c.requires.output in
    let only : c.args.output ≡ 0 = omega (arith, less) in
    rw (x.is, only) (ap Some (sym (c.count_ones.ensures.width ∙ ap least_width (sum_by-length c.args.inputs.now x.inputs x.width (rw x.is at c.requires.inputs)))))
