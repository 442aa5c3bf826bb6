use Rattle.std.proofs.Common.{◌≡◌, ◌%◌, ◌*◌, ◌^◌, [], ◌∷◌, true, false, arith}
use Rattle.std.proofs.lemmas.Nat.{one_shl}
use Rattle.lg_arith.specs.Operands.{are_defined}
use Rattle.lg_arith.proofs.OperandLemmas.{one_defined}
use Rattle.lg_arith.proofs.SumLemmas.{negation_undefined, negation_defined}
use Rattle.lg_arith.proofs.sum.negate.Goals as goal

pub returns-then-not-are_defined-clause-negation : goal.returns-then-not-are_defined-clause-negation
returns-then-not-are_defined-clause-negation c =
    let undefined : are_defined (c.args.a.now ∷ []) ≡ false = cc in
    let output = negation_undefined c.args.a.now undefined in
    cc

pub number-requires : goal.number-requires
number-requires c = one_defined c.args.a.now (cc)

pub returns-clause-negation : goal.returns-clause-negation
returns-clause-negation c =
    let defined : are_defined (c.args.a.now ∷ []) ≡ true = cc in
    let output = negation_defined c.args.a.now defined in
    let power : 1 * 2 ^ c.width-width.result % 2 ^ 128 ≡ 2 ^ c.width-width.result = one_shl c.width-width.result 128 (omega arith) in
    cc
