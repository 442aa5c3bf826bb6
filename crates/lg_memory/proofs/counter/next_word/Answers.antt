use Rattle.std.proofs.Common.{◌≡◌, ◌∙◌, ◌+◌, ◌%◌, ◌^◌, rules}
use Rattle.lg_value.specs.Word.{word_of_number}
use Rattle.lg_memory.proofs.NumberLemmas.{word_of_number-wrapped}
use Rattle.lg_memory.proofs.counter.next_word.Goals as goal

pub returns-clause-word : goal.returns-clause-word
returns-clause-word c =
    let wrapped : c.from_number.result ≡ word_of_number c.args.width ((c.args.n + 1) % 2 ^ 64) = search rules in
    wrapped ∙ word_of_number-wrapped c.args.width (c.args.n + 1) c.requires.1
