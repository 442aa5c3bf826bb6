use Rattle.std.proofs.Common.{◌≡◌, arith, true, false}
use Rattle.std.proofs.lemmas.List.{take_all}
use Rattle.lg_arith.specs.Operands.{are_defined}
use Rattle.lg_arith.proofs.CountLemmas.{IsWidth-least_width, count_undefined, count_defined}
use Rattle.lg_arith.proofs.count.count_ones.Goals as goal

pub low_word-requires : goal.low_word-requires
low_word-requires c =
    rw c.least_width-width.ensures (IsWidth-least_width c.loop-input.greatest (omega arith) (omega arith))

pub fill-requires : goal.fill-requires
fill-requires c =
    rw c.least_width-width.ensures (IsWidth-least_width c.loop-input.greatest (omega arith) (omega arith))

pub returns-then-are_defined-clause-count : goal.returns-then-are_defined-clause-count
returns-then-are_defined-clause-count c =
    let inputs = c.args.inputs.now in
    let all = take_all c.loop-input.input-index inputs c.loop-input-test.false in
    let defined : are_defined inputs ≡ true = cc in
    let output = count_defined inputs defined in
    cc

pub returns-else-are_defined-clause-count : goal.returns-else-are_defined-clause-count
returns-else-are_defined-clause-count c =
    let inputs = c.args.inputs.now in
    let all = take_all c.loop-input.input-index inputs c.loop-input-test.false in
    let undefined : are_defined inputs ≡ false = cc in
    let output = count_undefined inputs undefined in
    cc
