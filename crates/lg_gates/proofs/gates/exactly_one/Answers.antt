use Rattle.std.proofs.Common.{◌≡◌, ◌≤◌, List, Option, None, Some, get_or, take, length, arith, sym, subst, ◌∙◌}
use Rattle.std.specs.List.{fold}
use Rattle.std.proofs.lemmas.List.{get_or_read, take_all}
use Rattle.lg_value.specs.declared.bit.Bit.{Bit}
use Rattle.lg_value.specs.declared.bit.Bit.TheVariants.{Zero, Unknown}
use Rattle.lg_value.specs.Bit.{and_bits, or_bits, xor_bits}
use Rattle.lg_value.proofs.WordLemmas.{get_or-each_pair}
use Rattle.lg_gates.proofs.GateLemmas.{seen, seen_none, seen_some}
use Rattle.lg_gates.proofs.FoldLemmas.{TellsMany, folded_none, folded_some, folded_all, many_more, exactly_one-odd_many}
use Rattle.lg_gates.proofs.gates.exactly_one.Goals as goal
use Rattle.lg_gates.proofs.gates.exactly_one.Goals.{in-Some, in_default}

pub loop-input-preserved : goal.loop-input-preserved
loop-input-preserved c =
    let inputs = c.args.inputs.now in
    let width = c.args.width in
    let l = c.loop-input in
    let i = l.input-index in
    let inside = c.loop-input-test.true in
    let item : get_or inputs i None ≡ c.input-item.result = sym (get_or_read inputs i c.input-item.result inside c.input-item.is None) in
    elim c.match-input.branch [
      | in-Some w ↦
          let input = w.in-Some.input in
          let is : get_or inputs i None ≡ Some input = item ∙ w.in-Some.is in
          let wide : length input ≡ width = rw is at (c.requires.widths i None inside) in
          record {
            odd = rw w.odd-is (folded_some inputs i input w.xor-odd.result inside is wide w.xor-odd.ensures.bits l.invariant.odd);
            wide = rw w.many-is (w.or-many.ensures.width ∙ l.invariant.wide);
            many = λ k below.
                let before : get_or l.odd k Unknown ≡ fold xor_bits Zero (seen k (take i inputs)) = l.invariant.odd.bits k below in
                let both : get_or w.and.result k Unknown ≡ and_bits (get_or l.odd k Unknown) (get_or input k Unknown) =
                rw w.and.ensures.bits (get_or-each_pair and_bits l.odd input k Unknown (omega (arith, below, l.invariant.odd.wide)) (omega (arith, below, wide))) in
                let bit : get_or w.or-many.result k Unknown ≡ or_bits (get_or l.many k Unknown) (get_or w.and.result k Unknown) =
                rw w.or-many.ensures.bits (get_or-each_pair or_bits l.many w.and.result k Unknown (omega (arith, below, l.invariant.wide)) (omega (arith, below, l.invariant.odd.wide, w.and.ensures.width))) in
                let more = many_more (get_or l.many k Unknown) (get_or input k Unknown) (seen k (take i inputs)) (l.invariant.many k below) in
                rw (w.many-is, bit, both, before, seen_some k inputs i input inside is) more;
          }
      | in_default w ↦ record {
        odd = rw w.odd-is (folded_none inputs i inside (item ∙ w.in_default.is) l.invariant.odd);
        wide = rw w.many-is l.invariant.wide;
        many = λ k below. rw (w.many-is, seen_none k inputs i inside (item ∙ w.in_default.is)) (l.invariant.many k below);
      }
    ]

pub returns-clause-bits : goal.returns-clause-bits
returns-clause-bits c = λ k below.
    let inputs = c.args.inputs.now in
    let l = c.loop-input in
    let whole : length inputs ≤ l.input-index = omega arith in
    let odd = folded_all inputs l.input-index whole l.invariant.odd in
    let told : TellsMany (get_or l.many k Unknown) (seen k inputs) =
    subst (λ (some : List (Option (List Bit))). TellsMany (get_or l.many k Unknown) (seen k some)) (take_all l.input-index inputs whole) (l.invariant.many k below) in
    let both : get_or c.and-2.result k Unknown ≡ and_bits (get_or l.odd k Unknown) (get_or l.many k Unknown) =
    rw c.and-2.ensures.bits (get_or-each_pair and_bits l.odd l.many k Unknown (omega (arith, below, odd.wide)) (omega (arith, below, l.invariant.wide))) in
    let bit : get_or c.xor.result k Unknown ≡ xor_bits (get_or l.odd k Unknown) (get_or c.and-2.result k Unknown) =
    rw c.xor.ensures.bits (get_or-each_pair xor_bits l.odd c.and-2.result k Unknown (omega (arith, below, odd.wide)) (omega (arith, below, odd.wide, c.and-2.ensures.width))) in
    rw (bit, both, odd.bits k below) (exactly_one-odd_many (get_or l.many k Unknown) (seen k inputs) told)
