use Rattle.std.proofs.Common.{◌≡◌, true, false, arith}
use Rattle.std.proofs.lemmas.Nat.{shl_whole}
use Rattle.lg_arith.specs.Operands.{are_defined}
use Rattle.lg_arith.specs.Quotient.{quotient_operands}
use Rattle.lg_arith.proofs.OperandLemmas.{three_defined}
use Rattle.lg_arith.proofs.QuotientLemmas.{quotient_undefined, quotient_defined, remainder_undefined, remainder_defined}
use Rattle.lg_arith.proofs.quotient.div.Goals as goal

pub returns-then-not-are_defined-clause-quotient : goal.returns-then-not-are_defined-clause-quotient
returns-then-not-are_defined-clause-quotient c =
    let undefined : are_defined (quotient_operands c.args.a.now c.args.b.now c.args.upper.now) ≡ false = cc in
    let output = quotient_undefined c.args.a.now c.args.b.now c.args.upper.now undefined in
    cc

pub returns-then-not-are_defined-clause-remainder : goal.returns-then-not-are_defined-clause-remainder
returns-then-not-are_defined-clause-remainder c =
    let undefined : are_defined (quotient_operands c.args.a.now c.args.b.now c.args.upper.now) ≡ false = cc in
    let output = remainder_undefined c.args.a.now c.args.b.now c.args.upper.now undefined in
    cc

pub number-requires : goal.number-requires
number-requires c = (three_defined c.args.a.now c.args.b.now c.counted_word-upper.result (cc)).2

pub number-requires-2 : goal.number-requires-2
number-requires-2 c = (three_defined c.args.a.now c.args.b.now c.counted_word-upper.result (cc)).0

pub number-requires-3 : goal.number-requires-3
number-requires-3 c = (three_defined c.args.a.now c.args.b.now c.counted_word-upper.result (cc)).1

pub returns-clause-quotient : goal.returns-clause-quotient
returns-clause-quotient c =
    let defined : are_defined (quotient_operands c.args.a.now c.args.b.now c.args.upper.now) ≡ true = cc in
    let output = quotient_defined c.args.a.now c.args.b.now c.args.upper.now defined in
    let raised = shl_whole c.from.result 64 c.width-width.result 128 (omega arith) (omega arith) in
    cc

pub returns-clause-remainder : goal.returns-clause-remainder
returns-clause-remainder c =
    let defined : are_defined (quotient_operands c.args.a.now c.args.b.now c.args.upper.now) ≡ true = cc in
    let output = remainder_defined c.args.a.now c.args.b.now c.args.upper.now defined in
    let raised = shl_whole c.from.result 64 c.width-width.result 128 (omega arith) (omega arith) in
    cc
