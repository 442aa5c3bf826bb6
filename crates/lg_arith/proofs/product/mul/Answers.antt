use Rattle.std.proofs.Common.{◌≡◌, true, false}
use Rattle.lg_arith.specs.Operands.{are_defined}
use Rattle.lg_arith.specs.Product.{product_operands}
use Rattle.lg_arith.proofs.OperandLemmas.{three_defined}
use Rattle.lg_arith.proofs.ProductLemmas.{low_product_undefined, low_product_defined, high_product_undefined, high_product_defined}
use Rattle.lg_arith.proofs.product.mul.Goals as goal

pub returns-then-not-are_defined-clause-low : goal.returns-then-not-are_defined-clause-low
returns-then-not-are_defined-clause-low c =
    let undefined : are_defined (product_operands c.args.a.now c.args.b.now c.args.c.now) ≡ false = cc in
    let output = low_product_undefined c.args.a.now c.args.b.now c.args.c.now undefined in
    cc

pub returns-then-not-are_defined-clause-high : goal.returns-then-not-are_defined-clause-high
returns-then-not-are_defined-clause-high c =
    let undefined : are_defined (product_operands c.args.a.now c.args.b.now c.args.c.now) ≡ false = cc in
    let output = high_product_undefined c.args.a.now c.args.b.now c.args.c.now undefined in
    cc

pub number-requires : goal.number-requires
number-requires c = (three_defined c.args.a.now c.args.b.now c.counted_word-c.result (cc)).0

pub number-requires-2 : goal.number-requires-2
number-requires-2 c = (three_defined c.args.a.now c.args.b.now c.counted_word-c.result (cc)).1

pub number-requires-3 : goal.number-requires-3
number-requires-3 c = (three_defined c.args.a.now c.args.b.now c.counted_word-c.result (cc)).2

pub returns-clause-low : goal.returns-clause-low
returns-clause-low c =
    let defined : are_defined (product_operands c.args.a.now c.args.b.now c.args.c.now) ≡ true = cc in
    let output = low_product_defined c.args.a.now c.args.b.now c.args.c.now defined in
    cc

pub returns-clause-high : goal.returns-clause-high
returns-clause-high c =
    let defined : are_defined (product_operands c.args.a.now c.args.b.now c.args.c.now) ≡ true = cc in
    let output = high_product_defined c.args.a.now c.args.b.now c.args.c.now defined in
    cc
