use Rattle.std.proofs.Common.{◌≡◌, ◌≤◌, ◌^◌, ℕ, [], ◌∷◌, length, sym, ap, ◌∙◌, arith}
use Rattle.lg_memory.specs.Inputs.{word_at}
use Rattle.lg_shapes.specs.Plexers.{enable_width}
use Rattle.lg_shapes.proofs.InputLemmas.{length-take_of, one_width-take, length-behind, length-read_behind}
use Rattle.lg_shapes.proofs.plexers.multiplexed.Goals as goal

pub pick-word-requires-clause-count : goal.pick-word-requires-clause-count
pick-word-requires-clause-count c =
    let inputs = c.args.inputs.now in
    let select = c.args.select in
    let width = length (word_at inputs 0) in
    let others = enable_width c.args.enable in
    let at : c.index-inputs-lines.result ≡ _ = c.index-inputs-lines.is in
    let wide : length c.index-inputs-lines.result ≡ select =
    length-read_behind inputs (2 ^ select) width select others c.index-inputs-lines.result c.requires.inputs (rw c.lines-lines.ensures.lines at at) in
    rw c.lines-lines.ensures.lines (length-take_of inputs (2 ^ select) width (select ∷ others) c.requires.inputs ∙ ap (λ (s : ℕ). 2 ^ s) (sym wide))

pub pick-word-requires-clause-widths : goal.pick-word-requires-clause-widths
pick-word-requires-clause-widths c =
    let some : 1 ≤ 2 ^ c.args.select = omega (arith, c.lines-lines.ensures.lines, c.lines-lines.ensures.some) in
    rw c.lines-lines.ensures.lines (one_width-take c.args.inputs.now (2 ^ c.args.select) (length (word_at c.args.inputs.now 0)) (c.args.select ∷ enable_width c.args.enable) some c.requires.inputs)

pub under_enable-requires : goal.under_enable-requires
under_enable-requires c on =
    let inputs = c.args.inputs.now in
    let width = length (word_at inputs 0) in
    let there = rw on at c.requires.inputs in
    rw c.lines-lines.ensures.lines (omega (arith, length-behind inputs (2 ^ c.args.select) width 1 (c.args.select ∷ 1 ∷ []) there))
