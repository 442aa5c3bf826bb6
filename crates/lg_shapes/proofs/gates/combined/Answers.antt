use Rattle.lg_shapes.proofs.InputLemmas.{read_inputs-width}
use Rattle.std.proofs.Common.{length}
use Rattle.lg_shapes.proofs.gates.combined.Goals as goal

pub gate-requires-clause-widths : goal.gate-requires-clause-widths
gate-requires-clause-widths c =
    rw c.read_inputs.ensures.read (read_inputs-width c.args.negated.now c.args.attached.now c.args.inputs.now (length c.args.negated.now) c.args.width c.requires.inputs)
