use Rattle.std.proofs.Common.{get_or, refl, arith, sym, ◌∙◌}
use Rattle.std.proofs.lemmas.Option.{IfSome_then}
use Rattle.lg_value.specs.declared.bit.Bit.TheVariants.{Zero}
use Rattle.lg_gates.proofs.PriorityLemmas.{found_more_one, found_more_other, not_one}
use Rattle.lg_gates.proofs.encoder.greatest_one.Goals as goal
use Rattle.lg_gates.proofs.encoder.greatest_one.Goals.{in-One, in_default}

pub loop-place-preserved : goal.loop-place-preserved
loop-place-preserved c =
    let l = c.loop-place in
    let bits = c.args.bits.now in
    elim c.match-bit.branch [
      | in-One w ↦ record {
        found = w.greatest-is ∙ sym (found_more_one bits l.place c.loop-place-test.true w.in-One.is);
        inside = rw w.greatest-is (omega arith);
      }
      | in_default w ↦ record {
        found = w.greatest-is ∙ l.invariant.found ∙ sym (found_more_other bits l.place (get_or bits l.place Zero) c.loop-place-test.true refl (not_one (get_or bits l.place Zero) w.in_default.not-One));
        inside = rw w.greatest-is (IfSome_then l.greatest l.invariant.inside (λ x p. omega arith));
      }
    ]
