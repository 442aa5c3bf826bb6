use Rattle.std.proofs.Common.{drop, sym, ◌∙◌, arith}
use Rattle.std.proofs.lemmas.Bool.Decides.{nat_tests}
use Rattle.std.proofs.lemmas.Option.{get_or_from_slice_get}
use Rattle.lg_value.specs.declared.bit.Bit.TheVariants.{Unknown}
use Rattle.lg_instants.proofs.DriverSteps.{bits_on-past, bits_on-more}
use Rattle.lg_instants.proofs.drivers.join_word.Goals as goal
use Rattle.lg_instants.proofs.drivers.join_word.Goals.{then-nets-i, else-nets-i}

pub returns-then-i-width : goal.returns-then-i-width
returns-then-i-width c =
    sym (bits_on-past c.loop-i.joined c.args.net c.loop-i.i (drop c.loop-i.i c.args.nets.now) c.args.word.now (omega arith)) ∙ c.loop-i.invariant

pub loop-i-preserved : goal.loop-i-preserved
loop-i-preserved c =
    let e = bits_on-more c.args.net c.loop-i.i c.args.nets.now c.args.word.now (omega arith) (omega arith) in
    elim c.if-nets-i.branch [
      | then-nets-i w ↦ let b = get_or_from_slice_get c.args.word.now c.loop-i.i w.bit.result Unknown w.bit.ensures in grind (arith, nat_tests)
      | else-nets-i w ↦ grind (arith, nat_tests)
    ]
