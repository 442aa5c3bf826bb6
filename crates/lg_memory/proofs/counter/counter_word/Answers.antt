use Rattle.std.proofs.Common.{◌≡◌, ◌≢◌, [], ◌∷◌, rules}
use Rattle.lg_value.specs.declared.bit.Bit.TheVariants.{Zero, One}
use Rattle.lg_memory.specs.Inputs.{word_at, bit_at, defined_number}
use Rattle.lg_memory.specs.Counter.{counted}
use Rattle.lg_memory.proofs.CaseLemmas.{loads_or_counts-counts, word_at_first}
use Rattle.lg_memory.proofs.counter.counter_word.Goals as goal

pub returns-in_default-clause-word : goal.returns-in_default-clause-word
returns-in_default-clause-word c =
    let off : bit_at c.args.inputs.now 1 ≢ One = search rules in
    let on : bit_at c.args.inputs.now 3 ≢ Zero = search rules in
    let d : c.index-inputs-0-in_default.result ≡ word_at c.args.inputs.now 0 =
    word_at_first c.args.inputs.now c.args.width (1 ∷ 1 ∷ 1 ∷ 1 ∷ 1 ∷ []) c.index-inputs-0-in_default.result c.requires.inputs c.index-inputs-0-in_default.is in
    let next = counted c.args.goal c.args.width c.args.max (word_at c.args.inputs.now 0) (bit_at c.args.inputs.now 2) (defined_number c.args.held.now) in
    let counts = loads_or_counts-counts (bit_at c.args.inputs.now 1) (bit_at c.args.inputs.now 3) (word_at c.args.inputs.now 0) c.args.held.now next off on in
    cc (counts, c.counted.ensures.word, d, c.bit_at-in_default.ensures, c.defined_number.ensures.number)
