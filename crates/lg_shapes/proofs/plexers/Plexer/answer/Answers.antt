use Rattle.std.proofs.Common.{◌≡◌, ◌<◌, ◌^◌, [], ◌∷◌, length, ap, sym, ◌∙◌}
use Rattle.std.specs.Prelude.{Some}
use Rattle.std.proofs.lemmas.List.{length-replicate}
use Rattle.lg_memory.specs.Inputs.{word_at}
use Rattle.lg_memory.proofs.ShapeLemmas.{length-word_at}
use Rattle.lg_shapes.specs.Plexers.{enable_width, demultiplexed, decoded}
use Rattle.lg_shapes.proofs.InputLemmas.{slice_get-line, slice_get-replicate}
use Rattle.lg_shapes.proofs.plexers.Plexer.answer.Goals as goal

pub returns-in-Demultiplexer-clause-word : goal.returns-in-Demultiplexer-clause-word
returns-in-Demultiplexer-clause-word c =
    let x = c.in-Demultiplexer in
    let less : c.args.output < 2 ^ x.select = rw (x.is, length-replicate) at c.requires.output in
    rw x.is (slice_get-line (demultiplexed x.enable x.disabled x.tristate c.args.inputs.now) (2 ^ x.select) c.args.output less ∙ ap Some (sym c.demultiplexed.ensures.word))

pub returns-in-Demultiplexer-clause-width : goal.returns-in-Demultiplexer-clause-width
returns-in-Demultiplexer-clause-width c =
    let x = c.in-Demultiplexer in
    let less : c.args.output < 2 ^ x.select = rw (x.is, length-replicate) at c.requires.output in
    let first : length (word_at c.args.inputs.now 0) ≡ x.width = length-word_at c.args.inputs.now (x.width ∷ x.select ∷ enable_width x.enable) 0 (rw x.is at c.requires.inputs) in
    rw x.is (slice_get-replicate (2 ^ x.select) x.width c.args.output less ∙ ap Some (sym (c.demultiplexed.ensures.width ∙ first)))

pub returns-in-Decoder-clause-word : goal.returns-in-Decoder-clause-word
returns-in-Decoder-clause-word c =
    let x = c.in-Decoder in
    let less : c.args.output < 2 ^ x.select = rw (x.is, length-replicate) at c.requires.output in
    rw x.is (slice_get-line (decoded x.enable x.disabled x.tristate c.args.inputs.now) (2 ^ x.select) c.args.output less ∙ ap Some (sym c.decoded.ensures.word))

pub returns-in-Decoder-clause-width : goal.returns-in-Decoder-clause-width
returns-in-Decoder-clause-width c =
    let x = c.in-Decoder in
    let less : c.args.output < 2 ^ x.select = rw (x.is, length-replicate) at c.requires.output in
    rw x.is (slice_get-replicate (2 ^ x.select) 1 c.args.output less ∙ ap Some (sym c.decoded.ensures.width))
