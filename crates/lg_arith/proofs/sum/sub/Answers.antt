use Rattle.std.proofs.Common.{◌≡◌, ◌%◌, ◌*◌, ◌^◌, true, false, arith}
use Rattle.std.proofs.lemmas.Nat.{one_shl}
use Rattle.lg_value.proofs.WordLemmas.{number_of_one}
use Rattle.lg_arith.specs.Operands.{are_defined, counted_bit}
use Rattle.lg_arith.specs.Sum.{sum_operands}
use Rattle.lg_arith.proofs.OperandLemmas.{three_defined}
use Rattle.lg_arith.proofs.SumLemmas.{difference_undefined, difference_defined, borrow_undefined, borrow_defined}
use Rattle.lg_arith.proofs.sum.sub.Goals as goal

pub returns-then-not-are_defined-clause-difference : goal.returns-then-not-are_defined-clause-difference
returns-then-not-are_defined-clause-difference c =
    let undefined : are_defined (sum_operands c.args.a.now c.args.b.now c.args.borrow) ≡ false = cc in
    let output = difference_undefined c.args.a.now c.args.b.now c.args.borrow undefined in
    cc

pub returns-then-not-are_defined-clause-borrow : goal.returns-then-not-are_defined-clause-borrow
returns-then-not-are_defined-clause-borrow c =
    let undefined : are_defined (sum_operands c.args.a.now c.args.b.now c.args.borrow) ≡ false = cc in
    let output = borrow_undefined c.args.a.now c.args.b.now c.args.borrow undefined in
    cc

pub number-requires : goal.number-requires
number-requires c = (three_defined c.args.a.now c.args.b.now c.fill-borrow.result (cc)).1

pub number-requires-2 : goal.number-requires-2
number-requires-2 c = (three_defined c.args.a.now c.args.b.now c.fill-borrow.result (cc)).2

pub number-requires-3 : goal.number-requires-3
number-requires-3 c = (three_defined c.args.a.now c.args.b.now c.fill-borrow.result (cc)).0

pub returns-clause-difference : goal.returns-clause-difference
returns-clause-difference c =
    let defined : are_defined (sum_operands c.args.a.now c.args.b.now c.args.borrow) ≡ true = cc in
    let output = difference_defined c.args.a.now c.args.b.now c.args.borrow defined in
    let digit = number_of_one (counted_bit c.args.borrow) in
    let power : 1 * 2 ^ c.width-width.result % 2 ^ 128 ≡ 2 ^ c.width-width.result = one_shl c.width-width.result 128 (omega arith) in
    cc

pub returns-clause-borrow : goal.returns-clause-borrow
returns-clause-borrow c =
    let defined : are_defined (sum_operands c.args.a.now c.args.b.now c.args.borrow) ≡ true = cc in
    let output = borrow_defined c.args.a.now c.args.b.now c.args.borrow defined in
    let digit = number_of_one (counted_bit c.args.borrow) in
    cc
