use Rattle.std.proofs.Common.{◌≡◌, true, Some, ap, rules}
use Rattle.std.specs.List.{list_all}
use Rattle.lg_value.specs.Bit.{is_defined_bit}
use Rattle.lg_value.specs.Word.{IsDefined}
use Rattle.lg_memory.proofs.NumberLemmas.{test-IsDefined}
use Rattle.lg_memory.proofs.inputs.defined_number.Goals as goal

pub returns-then-defined-clause-number : goal.returns-then-defined-clause-number
returns-then-defined-clause-number c =
    let known : IsDefined c.args.word.now = search rules in
    let all : list_all is_defined_bit c.args.word.now ≡ true = test-IsDefined c.args.word.now known in
    rw all (ap Some c.number.ensures.sum)
