use Rattle.std.proofs.Common.{◌≡◌, ◌^◌, ◌≤◌, rules, arith, sym, refl, true, false}
use Rattle.std.specs.Prelude.{◌≢◌, pos}
use Rattle.std.proofs.Math.Pow.{pow_mono}
use Rattle.std.proofs.lemmas.Nat.{one_shl}
use denote.Enum.Bare.{same_true, sameb}
use Rattle.lg_value.specs.contracts.bit.Bit.{the_type}
use Rattle.lg_value.specs.declared.bit.Bit.{Bit}
use Rattle.lg_value.specs.declared.bit.Bit.TheVariants.{One}
use Rattle.lg_value.specs.Word.{number_of}
use Rattle.lg_arith.specs.Operands.{top_bit}
use Rattle.lg_arith.specs.Order.{compared_number, signed_number_of}
use Rattle.lg_arith.proofs.OrderLemmas.{signed_low, signed_high, difference_fits, number_fits}
use Rattle.lg_arith.proofs.order.compared_number.Goals as goal
use Rattle.lg_arith.proofs.order.compared_number.Goals.{else-signed-via-then-signed+else-eq, else-signed-via-else-signed}

other : (b : Bit) → sameb the_type b One ≡ false → b ≢ One
other b h e =
    let same : sameb the_type b One ≡ true = rw e refl in
    cc

pub returns-then-eq : goal.returns-then-eq
returns-then-eq c =
    let one : c.top_bit.result ≡ One = same_true the_type (search rules) _ _ (sym c.if-eq.ensures) in
    let top : top_bit c.args.word.now ≡ One = cc in
    let signed : compared_number c.args.signed c.args.word.now ≡ signed_number_of c.args.word.now = rw c.if-signed.true refl in
    let value = signed_low c.args.word.now top in
    let power = one_shl c.width.result 128 (omega arith) in
    let high : 2 ^ c.width.result ≤ 2 ^ 64 = pow_mono {i = c.width.result} {j = 64} (omega arith) in
    let computed = difference_fits c.number.result (2 ^ c.width.result) c.from-number.result (omega arith) high c.from-number.ensures in
    cc

pub returns-else-signed : goal.returns-else-signed
returns-else-signed c =
    let computed = number_fits c.number.result c.from-number.result (omega arith) c.from-number.ensures in
    let value : compared_number c.args.signed c.args.word.now ≡ pos (number_of c.args.word.now) =
    elim c.else-signed.branch [
      | else-signed-via-then-signed+else-eq w ↦
          let top : top_bit c.args.word.now ≢ One = λ e. other w.top_bit.result (cc) (cc) in
          rw w.if-signed.true (signed_high c.args.word.now top)
      | else-signed-via-else-signed w ↦ rw w.if-signed.false refl
    ] in
    cc
