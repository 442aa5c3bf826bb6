use Rattle.std.proofs.Common.{◌≡◌, [], length, arith}
use Rattle.lg_memory.specs.Inputs.{word_at}
use Rattle.lg_memory.proofs.ShapeLemmas.{AreWords-from_widths}
use Rattle.lg_shapes.proofs.plexers.read_bits.Goals as goal

pub bit_at-requires : goal.bit_at-requires
bit_at-requires c =
    let words = c.args.words.now in
    let one : length (word_at words c.loop-k.k) ≡ 1 = (AreWords-from_widths words (length words) 1 c.requires.words).1 c.loop-k.k [] c.loop-k-test.true in
    omega arith
