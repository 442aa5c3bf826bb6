use Rattle.std.proofs.Common.{◌≡◌, ◌%◌, ◌*◌, ◌^◌, true, false, arith}
use Rattle.std.proofs.lemmas.Nat.{one_shl}
use Rattle.lg_value.proofs.WordLemmas.{number_of_one}
use Rattle.lg_arith.specs.Operands.{are_defined, counted_bit}
use Rattle.lg_arith.specs.Sum.{sum_operands}
use Rattle.lg_arith.proofs.OperandLemmas.{three_defined}
use Rattle.lg_arith.proofs.SumLemmas.{sum_undefined, sum_defined, carry_undefined, carry_defined}
use Rattle.lg_arith.proofs.sum.add.Goals as goal

pub returns-then-not-are_defined-clause-sum : goal.returns-then-not-are_defined-clause-sum
returns-then-not-are_defined-clause-sum c =
    let undefined : are_defined (sum_operands c.args.a.now c.args.b.now c.args.carry) ≡ false = cc in
    let output = sum_undefined c.args.a.now c.args.b.now c.args.carry undefined in
    cc

pub returns-then-not-are_defined-clause-carry : goal.returns-then-not-are_defined-clause-carry
returns-then-not-are_defined-clause-carry c =
    let undefined : are_defined (sum_operands c.args.a.now c.args.b.now c.args.carry) ≡ false = cc in
    let output = carry_undefined c.args.a.now c.args.b.now c.args.carry undefined in
    cc

pub number-requires : goal.number-requires
number-requires c = (three_defined c.args.a.now c.args.b.now c.fill-carry.result (cc)).0

pub number-requires-2 : goal.number-requires-2
number-requires-2 c = (three_defined c.args.a.now c.args.b.now c.fill-carry.result (cc)).1

pub number-requires-3 : goal.number-requires-3
number-requires-3 c = (three_defined c.args.a.now c.args.b.now c.fill-carry.result (cc)).2

pub returns-clause-sum : goal.returns-clause-sum
returns-clause-sum c =
    let defined : are_defined (sum_operands c.args.a.now c.args.b.now c.args.carry) ≡ true = cc in
    let output = sum_defined c.args.a.now c.args.b.now c.args.carry defined in
    let digit = number_of_one (counted_bit c.args.carry) in
    cc

pub returns-clause-carry : goal.returns-clause-carry
returns-clause-carry c =
    let defined : are_defined (sum_operands c.args.a.now c.args.b.now c.args.carry) ≡ true = cc in
    let output = carry_defined c.args.a.now c.args.b.now c.args.carry defined in
    let digit = number_of_one (counted_bit c.args.carry) in
    let power : 1 * 2 ^ c.width-width.result % 2 ^ 128 ≡ 2 ^ c.width-width.result = one_shl c.width-width.result 128 (omega arith) in
    cc
