use Rattle.std.proofs.Common.{◌≡◌, [], ◌∷◌, true, false}
use Rattle.lg_arith.specs.declared.shifter.ShiftKind.TheVariants.{Left, Right, Arith, RollLeft, RollRight}
use Rattle.lg_arith.specs.Operands.{are_defined}
use Rattle.lg_arith.proofs.OperandLemmas.{two_defined}
use Rattle.lg_arith.proofs.ShiftLemmas.{shift_undefined, shift_defined}
use Rattle.lg_arith.proofs.shifter.shift.Goals as goal

pub returns-then-not-are_defined-clause-shifted : goal.returns-then-not-are_defined-clause-shifted
returns-then-not-are_defined-clause-shifted c =
    let undefined : are_defined (c.args.a.now ∷ c.args.distance.now ∷ []) ≡ false = cc in
    let output = shift_undefined c.args.kind c.args.a.now c.args.distance.now undefined in
    cc

pub number-distance-requires : goal.number-distance-requires
number-distance-requires c = (two_defined c.args.a.now c.args.distance.now (cc)).1

pub returns-in-Left-clause-shifted : goal.returns-in-Left-clause-shifted
returns-in-Left-clause-shifted c =
    let defined : are_defined (c.args.a.now ∷ c.args.distance.now ∷ []) ≡ true = cc in
    let output = shift_defined Left c.args.a.now c.args.distance.now defined in
    rw c.in-Left.is (cc)

pub returns-in-Right-clause-shifted : goal.returns-in-Right-clause-shifted
returns-in-Right-clause-shifted c =
    let defined : are_defined (c.args.a.now ∷ c.args.distance.now ∷ []) ≡ true = cc in
    let output = shift_defined Right c.args.a.now c.args.distance.now defined in
    rw c.in-Right.is (cc)

pub returns-in-Arith-clause-shifted : goal.returns-in-Arith-clause-shifted
returns-in-Arith-clause-shifted c =
    let defined : are_defined (c.args.a.now ∷ c.args.distance.now ∷ []) ≡ true = cc in
    let output = shift_defined Arith c.args.a.now c.args.distance.now defined in
    rw c.in-Arith.is (cc)

pub returns-in-RollLeft-clause-shifted : goal.returns-in-RollLeft-clause-shifted
returns-in-RollLeft-clause-shifted c =
    let defined : are_defined (c.args.a.now ∷ c.args.distance.now ∷ []) ≡ true = cc in
    let output = shift_defined RollLeft c.args.a.now c.args.distance.now defined in
    rw c.in-RollLeft.is (cc)

pub returns-in-RollRight-clause-shifted : goal.returns-in-RollRight-clause-shifted
returns-in-RollRight-clause-shifted c =
    let defined : are_defined (c.args.a.now ∷ c.args.distance.now ∷ []) ≡ true = cc in
    let output = shift_defined RollRight c.args.a.now c.args.distance.now defined in
    rw c.in-RollRight.is (cc)
