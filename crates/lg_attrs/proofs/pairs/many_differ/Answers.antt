use Rattle.std.proofs.Common.{◌≡◌, ◌∙◌, sym, ap, ℕ, List, Bool, true, false, cond, Bor}
use Rattle.std.specs.Prelude.{not}
use Rattle.std.specs.List.{list_any}
use Rattle.std.specs.Str.{bytes_eq}
use Rattle.std.specs.Ordering.{is_eq, nat_cmp}
use Rattle.std.specs.Cmp.Lexicographic.{slice_cmp}
use Rattle.lg_attrs.proofs.Distinct.{distinct_start, distinct_goes_on, distinct_fails, distinct_end}
use Rattle.lg_attrs.proofs.Members.{member, member_updates}
use Rattle.lg_attrs.proofs.pairs.many_differ.Goals as goal

negated : (a b : Bool) → a ≡ not b → not a ≡ b
negated a true e = ap not e
negated a false e = ap not e

pub loop-name-init : goal.loop-name-init
loop-name-init c = distinct_start (member c.new-names.result) c.args.pairs.now (λ q. ap (λ (ks : List (Bor (List ℕ))). list_any (λ (k : Bor (List ℕ)). is_eq (slice_cmp nat_cmp q k.now)) ks) c.new-names.ensures.empty)

pub returns-then-not-branch : goal.returns-then-not-branch
returns-then-not-branch c =
    let old = member c.loop-name.names in
    let x = c.loop-name-item.result in
    let present : old c.as_str.result.now ≡ true = sym (negated c.in_ok-insert.field-0 (old c.as_str.result.now) c.in_ok-insert.ensures.added) ∙ ap not c.if-not-branch.true in
    distinct_fails old c.loop-name.name-index c.args.pairs.now x c.loop-name-test.true c.loop-name-item.is (ap old (sym c.as_str.ensures) ∙ present) c.loop-name.invariant

pub loop-name-preserved : goal.loop-name-preserved
loop-name-preserved c =
    let old = member c.loop-name.names in
    let x = c.loop-name-item.result in
    let absent : old c.as_str.result.now ≡ false = sym (negated c.in_ok-insert.field-0 (old c.as_str.result.now) c.in_ok-insert.ensures.added) ∙ ap not c.if-not-branch.false in
    let updates = λ (q : List ℕ). member_updates c.loop-name.names c.insert.new.self c.as_str.result c.in_ok-insert.ensures.updates q ∙ ap (λ (n : List ℕ). cond (bytes_eq n q) true (old q)) c.as_str.ensures in
    distinct_goes_on old (member c.insert.new.self) c.loop-name.name-index c.args.pairs.now x c.loop-name-test.true c.loop-name-item.is (ap old (sym c.as_str.ensures) ∙ absent) updates c.loop-name.invariant

pub returns : goal.returns
returns c = distinct_end (member c.loop-name.names) c.loop-name.name-index c.args.pairs.now c.loop-name-test.false c.loop-name.invariant
