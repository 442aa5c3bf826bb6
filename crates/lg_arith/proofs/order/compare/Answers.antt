use Rattle.std.proofs.Common.{◌≡◌, [], ◌∷◌, true, false, rules}
use Rattle.std.proofs.lemmas.Int.{to_z-of_z}
use mir.Val.{SFits}
use mir.Syntax.{w128}
use Rattle.lg_arith.specs.Operands.{are_defined}
use Rattle.lg_arith.proofs.OperandLemmas.{two_defined}
use Rattle.lg_arith.proofs.OrderLemmas.{greater_undefined, greater_defined, equal_undefined, equal_defined, less_undefined, less_defined}
use Rattle.lg_arith.proofs.order.compare.Goals as goal

pub returns-then-not-are_defined-clause-greater : goal.returns-then-not-are_defined-clause-greater
returns-then-not-are_defined-clause-greater c =
    let undefined : are_defined (c.args.a.now ∷ c.args.b.now ∷ []) ≡ false = cc in
    let output = greater_undefined c.args.a.now c.args.b.now c.args.signed undefined in
    cc

pub returns-then-not-are_defined-clause-equal : goal.returns-then-not-are_defined-clause-equal
returns-then-not-are_defined-clause-equal c =
    let undefined : are_defined (c.args.a.now ∷ c.args.b.now ∷ []) ≡ false = cc in
    let output = equal_undefined c.args.a.now c.args.b.now undefined in
    cc

pub returns-then-not-are_defined-clause-less : goal.returns-then-not-are_defined-clause-less
returns-then-not-are_defined-clause-less c =
    let undefined : are_defined (c.args.a.now ∷ c.args.b.now ∷ []) ≡ false = cc in
    let output = less_undefined c.args.a.now c.args.b.now c.args.signed undefined in
    cc

pub compared_number-a_number-requires : goal.compared_number-a_number-requires
compared_number-a_number-requires c = (two_defined c.args.a.now c.args.b.now (cc)).0

pub compared_number-b_number-requires : goal.compared_number-b_number-requires
compared_number-b_number-requires c = (two_defined c.args.a.now c.args.b.now (cc)).1

pub returns-clause-greater : goal.returns-clause-greater
returns-clause-greater c =
    let defined : are_defined (c.args.a.now ∷ c.args.b.now ∷ []) ≡ true = cc in
    let output = greater_defined c.args.a.now c.args.b.now c.args.signed defined in
    let first : SFits w128 c.compared_number-a_number.result = search rules in
    let second : SFits w128 c.compared_number-b_number.result = search rules in
    let own = simp to_z-of_z at c.bit_of_test.ensures in
    cc

pub returns-clause-equal : goal.returns-clause-equal
returns-clause-equal c =
    let defined : are_defined (c.args.a.now ∷ c.args.b.now ∷ []) ≡ true = cc in
    let output = equal_defined c.args.a.now c.args.b.now defined in
    cc

pub returns-clause-less : goal.returns-clause-less
returns-clause-less c =
    let defined : are_defined (c.args.a.now ∷ c.args.b.now ∷ []) ≡ true = cc in
    let output = less_defined c.args.a.now c.args.b.now c.args.signed defined in
    let first : SFits w128 c.compared_number-a_number.result = search rules in
    let second : SFits w128 c.compared_number-b_number.result = search rules in
    let own = simp to_z-of_z at c.bit_of_test-3.ensures in
    cc
