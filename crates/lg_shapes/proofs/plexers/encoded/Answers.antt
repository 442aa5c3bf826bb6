use Rattle.std.proofs.Common.{◌^◌, [], ◌∷◌}
use Rattle.lg_shapes.proofs.InputLemmas.{length-take_of, widths-take}
use Rattle.lg_shapes.proofs.plexers.encoded.Goals as goal

pub read_bits-requires-clause-words : goal.read_bits-requires-clause-words
read_bits-requires-clause-words c =
    let inputs = c.args.inputs.now in
    let lines = 2 ^ c.args.select in
    rw (c.lines-lines.ensures.lines, length-take_of inputs lines 1 (1 ∷ []) c.requires.inputs) (widths-take inputs lines 1 (1 ∷ []) c.requires.inputs)
