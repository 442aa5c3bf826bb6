-- What a resolved expression computes is the number of the expression.
use Rattle.std.proofs.Common.{◌≡◌, ℕ, ◌+◌, ◌-◌, ◌*◌, ◌/◌, ◌%◌, ◌^◌, ◌<◌, ◌≤◌, min, nat_eq, nat_lt, nat_le, Bool, true, ◌&&◌, ◌||◌, cond, List, [], ◌∷◌, map, Option, Some, None, refl, sym, ap, subst, ◌∙◌, arith, slice_index_or}
use Rattle.std.specs.Prelude.{Contains, fold, option_map}
use Rattle.std.specs.Int.{bit_at}
use Rattle.std.specs.List.{AllByRecursion, flat_map, list_all}
use Rattle.std.proofs.Math.Nat.{mod-eq_of_lt}
use Rattle.lg_vtree.specs.declared.expr.Operator.{Operator}
use Rattle.lg_vtree.specs.declared.expr.Expr.{Expr, roll-Expr}
use Rattle.lg_vtree.specs.declared.expr.Expr.TheFolds.{map-Expr, fold-roll-Expr}
use Rattle.lg_vtree.specs.declared.expr.Expr.TheOpen.{Expr-F}
use Rattle.lg_vtree.specs.declared.module.Module.{Module}
use Rattle.lg_vrules.specs.declared.names.Sort.{Sort}
use Rattle.lg_vrules.specs.Things.{width_of, sort_of, is_memory}
use Rattle.lg_vrules.specs.Rules.{is_of, form_reads, reads_declared, operator_width, is_shift, sum_of, binary_width, choice_width, constant_fits, form_width, expr_width}
use Rattle.lg_vrules.specs.Depends.{form_names, names_read}
use Rattle.lg_vrules.specs.declared.names.NameIndex.{NameIndex}
use Rattle.lg_vrules.specs.Known.{width_under}
use Rattle.lg_vrules.proofs.NameIndexLemmas.{width_is}
use Rattle.lg_vmachine.specs.declared.term.Term.{Term, roll-Term}
use Rattle.lg_vmachine.specs.declared.term.Term.TheFolds.{map-Term, fold-roll-Term}
use Rattle.lg_vmachine.specs.declared.term.Term.TheOpen.{Term-F}
use Rattle.lg_vmachine.specs.declared.term.Term.TheVariants.{rolls-Const, rolls-Number, rolls-Part, rolls-Item, rolls-Join, rolls-Not, rolls-Binary, rolls-Choice}
use Rattle.lg_vmachine.specs.declared.term.Term.TheVariants as term
use Rattle.lg_vresolve.specs.declared.resolve.Resolved.{Resolved}
use Rattle.lg_vmachine.specs.Kept.{Kept}
use Rattle.lg_vresolve.specs.Meaning.{Valuation, operator_value, joined, memory_words, form_number, number_of}
use Rattle.lg_vmachine.specs.Terms.{wide_operation, form_term, term_number}
use Rattle.lg_vresolve.specs.Resolved.{index_or_0, resolved_part, resolved_join, resolved_not, resolved_binary, resolved_choice, form_resolved, resolved, AreIndexed, IsTermOf}
use Rattle.lg_vmachine.proofs.ShiftLemmas.{below_more}
use Rattle.lg_vresolve.proofs.ExprInduction.{parts, by_forms}
use Rattle.lg_vresolve.proofs.OperatorLemmas.{wide_is}
use Rattle.lg_vresolve.proofs.TermLemmas.{AtEach, at_one, at_left, at_right, at_three, names-roll, sized, sized-roll}
use Rattle.lg_vresolve.proofs.FitLemmas.{IsWithin, both, bound, where-some, sum_parts, at_most, part_indexes, join_within, same_width, all_fit}

module _ (numbers : List ℕ) (memories : List (List ℕ)) where
  abbrev pub computed : Term → ℕ
  computed t = term_number numbers memories t

  term-roll : (f : Term-F Term) (t : Term) → roll-Term f ≡ t → computed t ≡ form_term numbers memories (map-Term Term ℕ computed f)
  term-roll f t r = ap computed (sym r) ∙ fold-roll-Term ℕ (form_term numbers memories) f

  -- a term of this width, which computes this number
  pub record Computes (w n : ℕ) (r : Resolved) : Type 0 where
    pub wide : r.width ≡ w
    pub same : computed r.term ≡ n

  computes_part : (index high low w n : ℕ) → n ≡ slice_index_or numbers index 0 → low ≤ high → high + 1 - low ≡ w → w ≤ 128 → Computes w (n / 2 ^ low % 2 ^ w) (resolved_part index high low)
  computes_part index high low w n at order is_width narrow =
      let width : min (high - low + 1) (2 ^ 128 - 1) ≡ w = omega arith in
      record {
        wide = width;
        same =
            term-roll (Term-F.Part index low (min (high - low + 1) (2 ^ 128 - 1))) _ (rolls-Part index low (min (high - low + 1) (2 ^ 128 - 1)))
            ∙ (λ i. sym at i / 2 ^ low % 2 ^ width i);
      }

  -- what is below 2 to 128 loses nothing in 128 bits
  join_whole : (a b y k : ℕ) → a * 2 ^ y + b < 2 ^ k → k ≤ 128 → ((a * 2 ^ y) % 2 ^ 128 + b) % 2 ^ 128 ≡ a * 2 ^ y + b
  join_whole a b y k small narrow =
      let whole : a * 2 ^ y + b < 2 ^ 128 = below_more (a * 2 ^ y + b) k 128 small narrow in
      let high : a * 2 ^ y < 2 ^ 128 = omega arith in
      ap (λ n. (n + b) % 2 ^ 128) (mod-eq_of_lt high) ∙ mod-eq_of_lt whole

  computes_join : (x y : ℕ) (p q : ℕ × ℕ) (r s : Resolved) → x + y ≤ 128 → IsWithin x p → IsWithin y q → Computes x p.1 r → Computes y q.1 s → Computes (x + y) (joined p q).1 (resolved_join r s)
  computes_join x y p q r s narrow high low first second =
      let within = (join_within x y p q narrow high low).within in
      let width : s.width ≡ q.0 = second.wide ∙ sym low.wide in
      record {
        wide = let a = first.wide in let b = second.wide in omega arith;
        same =
            term-roll (Term-F.Join r.term s.width s.term) _ (rolls-Join r.term s.width s.term)
            ∙ ((λ i. ((first.same i * 2 ^ width i) % 2 ^ 128 + second.same i) % 2 ^ 128) ∙ join_whole p.1 q.1 q.0 (x + y) within narrow);
      }

  computes_not : (w : ℕ) (p : ℕ × ℕ) (r : Resolved) → IsWithin w p → Computes w p.1 r → Computes w (2 ^ p.0 - 1 - p.1) (resolved_not r)
  computes_not w p r inside here =
      let width : min r.width 128 ≡ p.0 = (let a = here.wide in let b = inside.wide in let c = inside.narrow in omega arith) in
      record {
        wide = here.wide;
        same = term-roll (Term-F.Not r.width r.term) _ (rolls-Not r.width r.term) ∙ (λ i. 2 ^ width i - 1 - here.same i);
      }

  computes_binary : (op : Operator) (x y w : ℕ) (p q : ℕ × ℕ) (r s : Resolved) → binary_width op x y ≡ Some w → IsWithin x p → IsWithin y q → Computes x p.1 r → Computes y q.1 s
      → Computes w (operator_value op p.0 p.1 q.1) (resolved_binary r op s)
  computes_binary op x y w p q r s e left right first second =
      let test = where-some (is_shift op || nat_eq x y) (operator_width op x) w e in
      record {
        wide = ap (operator_width op) first.wide ∙ test.1;
        same =
            term-roll (Term-F.Binary r.width r.term op s.term) _ (rolls-Binary r.width r.term op s.term)
            ∙ ((λ i. wide_operation op (first.wide i) (first.same i) (second.same i))
            ∙ (wide_is op x p.1 q.1 left.narrow (λ no_shift. subst (λ k. q.1 < 2 ^ k) (sym (same_width op x y test.0 no_shift)) right.within)
            ∙ ap (λ k. operator_value op k p.1 q.1) (sym left.wide)));
      }

  computes_choice : (c x y w : ℕ) (n : ℕ) (p q : ℕ × ℕ) (t r s : Resolved) → choice_width c x y ≡ Some w → Computes c n t → Computes x p.1 r → Computes y q.1 s
      → Computes w (cond (nat_eq n 0) q.1 p.1) (resolved_choice t r s)
  computes_choice c x y w n p q t r s e condition first second =
      let test = where-some (nat_eq c 1 && nat_eq x y) x w e in
      record {
        wide = first.wide ∙ test.1;
        same =
            term-roll (Term-F.Choice t.term r.term s.term) _ (rolls-Choice t.term r.term s.term)
            ∙ (λ i. cond (nat_eq (condition.same i) 0) (second.same i) (first.same i));
      }

  module _ (sort : List ℕ → Option Sort) (width : List ℕ → ℕ) (words : List ℕ → List ℕ) (v : Valuation) (index memory : List ℕ → Option ℕ)
      (narrow : (name : List ℕ) → width name ≤ 128)
      (words_within : (name : List ℕ) → AllByRecursion (λ word. word < 2 ^ width name) (words name))
      (words_at : (name : List ℕ) → is_of is_memory sort name ≡ true → slice_index_or memories (index_or_0 memory name) [] ≡ words name) where
    -- the name's number is at its index, and its width can hold it
    pub record IsIndexed (name : List ℕ) : Type 0 where
      pub small : v name < 2 ^ width name
      pub at : v name ≡ slice_index_or numbers (index_or_0 index name) 0

    abbrev number : Expr → ℕ × ℕ
    number e = sized width words v e

    abbrev turned : Expr → Resolved
    turned e = resolved width index memory e

    abbrev IsRight : Expr → Type 0
    IsRight e = reads_declared sort e ≡ true → (w : ℕ) → expr_width width e ≡ Some w → AtEach IsIndexed (names_read e) → IsWithin w (number e) × Computes w (number e).1 (turned e)

    within : (e : Expr) (w : ℕ) → expr_width width e ≡ Some w → AtEach IsIndexed (names_read e) → IsWithin w (number e)
    within e w is_width each = all_fit width words v narrow words_within e w is_width (λ name read. (each name read).small)

    joined_right : (es : List Expr) → AllByRecursion IsRight es → list_all (λ e. e) (map (reads_declared sort) es) ≡ true → (x t : ℕ) (p : ℕ × ℕ) (r : Resolved)
        → sum_of (map (expr_width width) es) ≡ Some t → x + t ≤ 128 → AtEach IsIndexed (flat_map (λ names. names) (map names_read es)) → IsWithin x p → Computes x p.1 r
        → Computes (x + t) (fold joined p (map number es)).1 (fold resolved_join r (map turned es))
    joined_right [] right reads x t p r e small each inside here = let none : x ≡ x + t = (let zero : 0 ≡ t = cc in omega arith) in subst (λ n. Computes n p.1 r) none here
    joined_right (e ∷ es) right reads x t p r is_sum small each inside here =
        let declared = both (reads_declared sort e) (list_all (λ e. e) (map (reads_declared sort) es)) reads in
        let s = sum_parts (expr_width width e) (sum_of (map (expr_width width) es)) t is_sum in
        let rest = flat_map (λ names. names) (map names_read es) in
        let low = right.0 declared.0 s.first s.is_first (at_left IsIndexed (names_read e) rest each) in
        let fitting : x + s.first ≤ 128 = omega (arith, s.total) in
        let fitting_all : x + s.first + s.rest ≤ 128 = omega (arith, s.total) in
        let two = join_within x s.first p (number e) fitting inside low.0 in
        let all = joined_right es right.1 declared.1 (x + s.first) s.rest (joined p (number e)) (resolved_join r (turned e)) s.is_rest fitting_all
        (at_right IsIndexed (names_read e) rest each) two (computes_join x s.first p (number e) r (turned e) fitting inside low.0 here low.1) in
        let total : x + s.first + s.rest ≡ x + t = omega (arith, s.total) in
        subst (λ n. Computes n (fold joined p (map number (e ∷ es))).1 (fold resolved_join r (map turned (e ∷ es)))) total all

    right_form : (f : Expr-F Expr) → AllByRecursion IsRight (parts f) → form_reads sort (map-Expr Expr Bool (reads_declared sort) f) ≡ true
        → (w : ℕ) → form_width width (map-Expr Expr (Option ℕ) (expr_width width) f) ≡ Some w → AtEach IsIndexed (form_names (map-Expr Expr (List (List ℕ)) names_read f))
        → Computes w (form_number width words v (map-Expr Expr (ℕ × ℕ) number f)).1 (form_resolved width index memory (map-Expr Expr Resolved turned f))
    right_form (Expr-F.Const c) right reads w e each = record { wide = (where-some (constant_fits c) c.width w e).1; same = term-roll (Term-F.Const c.value) _ (rolls-Const c.value) }
    right_form (Expr-F.Whole name) right reads w e each = record {
      wide = cc;
      same = term-roll (Term-F.Number (index_or_0 index name)) _ (rolls-Number (index_or_0 index name)) ∙ sym (at_one IsIndexed name each).at;
    }
    right_form (Expr-F.Bit name at) right reads w e each =
        let one : 1 ≡ w = (where-some (nat_lt 1 (width name) && nat_lt at (width name)) 1 w e).1 in
        subst (λ n. Computes n (bit_at (v name) at) (resolved_part (index_or_0 index name) at at)) one
        (computes_part (index_or_0 index name) at at 1 (v name) (at_one IsIndexed name each).at (omega arith) (omega arith) (omega arith))
    right_form (Expr-F.Part name high low) right reads w e each =
        let test = where-some (nat_lt 1 (width name) && (nat_le low high && nat_lt high (width name))) (high + 1 - low) w e in
        let indexes = part_indexes (width name) high low test.0 in
        subst (λ n. Computes n (v name / 2 ^ low % 2 ^ (high + 1 - low)) (resolved_part (index_or_0 index name) high low)) test.1
        (computes_part (index_or_0 index name) high low (high + 1 - low) (v name) (at_one IsIndexed name each).at indexes.0 refl (omega (arith, narrow name, indexes.1)))
    right_form (Expr-F.Item name e) right reads w is_width each = by_address (expr_width width e) refl is_width
      where
        declared : (is_of is_memory sort name ≡ true) × (reads_declared sort e ≡ true)
        declared = both (is_of is_memory sort name) (reads_declared sort e) reads

        by_address : (o : Option ℕ) → expr_width width e ≡ o → option_map (λ (k : ℕ). width name) o ≡ Some w
            → Computes w (slice_index_or (words name) (number e).1 0) (record { term = term.Item (index_or_0 memory name) (turned e).term; width = width name })
        by_address None is none = absurd cc
        by_address (Some k) is some = record {
          wide = cc;
          same =
              term-roll (Term-F.Item (index_or_0 memory name) (turned e).term) _ (rolls-Item (index_or_0 memory name) (turned e).term)
              ∙ (λ i. slice_index_or (words_at name declared.0 i) ((right.0 declared.1 k is each).1.same i) 0);
        }
    right_form (Expr-F.Join a b more) right reads w e each =
        let names = at_three IsIndexed (names_read a) (names_read b) (flat_map (λ names. names) (map names_read more)) each in
        let declared = both (reads_declared sort a) (list_all (λ e. e) (map (reads_declared sort) (b ∷ more))) reads in
        let sum = at_most (sum_of (map (expr_width width) (a ∷ b ∷ more))) w e in
        let s = sum_parts (expr_width width a) (sum_of (map (expr_width width) (b ∷ more))) w sum.0 in
        let high = right.0 declared.0 s.first s.is_first names.0 in
        subst (λ n. Computes n (fold joined (number a) (map number (b ∷ more))).1 (fold resolved_join (turned a) (map turned (b ∷ more)))) s.total
        (joined_right (b ∷ more) right.1 declared.1 s.first s.rest (number a) (turned a) s.is_rest (subst (λ n. n ≤ 128) (sym s.total) sum.1) names.1 high.0 high.1)
    right_form (Expr-F.Not e) right reads w is_width each =
        let inner = right.0 reads w is_width each in
        computes_not w (number e) (turned e) inner.0 inner.1
    right_form (Expr-F.Binary a op b) right reads w e each =
        let declared = both (reads_declared sort a) (reads_declared sort b) reads in
        let left = bound (expr_width width a) _ w e in
        let other = bound (expr_width width b) _ w left.2 in
        let first = right.0 declared.0 left.0 left.1 (at_left IsIndexed (names_read a) (names_read b) each) in
        let second = right.1.0 declared.1 other.0 other.1 (at_right IsIndexed (names_read a) (names_read b) each) in
        computes_binary op left.0 other.0 w (number a) (number b) (turned a) (turned b) other.2 first.0 second.0 first.1 second.1
    right_form (Expr-F.Choice c a b) right reads w e each =
        let outer = both (reads_declared sort c) (reads_declared sort a && reads_declared sort b) reads in
        let inner = both (reads_declared sort a) (reads_declared sort b) outer.1 in
        let names = at_three IsIndexed (names_read c) (names_read a) (names_read b) each in
        let condition = bound (expr_width width c) _ w e in
        let first = bound (expr_width width a) _ w condition.2 in
        let second = bound (expr_width width b) _ w first.2 in
        computes_choice condition.0 first.0 second.0 w (number c).1 (number a) (number b) (turned c) (turned a) (turned b) second.2
        (right.0 outer.0 condition.0 condition.1 names.0).1
        (right.1.0 inner.0 first.0 first.1 (at_left IsIndexed (names_read a) (names_read b) names.1)).1
        (right.1.1.0 inner.1 second.0 second.1 (at_right IsIndexed (names_read a) (names_read b) names.1)).1

    pub all_right : (e : Expr) → IsRight e
    all_right = by_forms IsRight (λ f right reads w e each.
        let computes = right_form f right (sym (fold-roll-Expr Bool (form_reads sort) f) ∙ reads) w (sym (fold-roll-Expr (Option ℕ) (form_width width) f) ∙ e) (subst (AtEach IsIndexed) (names-roll f) each) in (
          within (roll-Expr f) w e each,
          subst (Computes w (number (roll-Expr f)).1) (sym (fold-roll-Expr Resolved (form_resolved width index memory) f))
              (subst (λ (p : ℕ × ℕ). Computes w p.1 (form_resolved width index memory (map-Expr Expr Resolved turned f))) (sym (sized-roll width words v f)) computes),
        ))

-- where each name that an expression reads stands at its index with a number that its width can hold, and each memory at its own, the term has the expression's width and number
pub resolved_is : (m : Module) (kept : Kept) (v : Valuation) (e : Expr) (w : ℕ) (numbers : List ℕ) (index memory : List ℕ → Option ℕ)
    → ((name : List ℕ) → width_of m name ≤ 128)
    → ((name : List ℕ) → AllByRecursion (λ word. word < 2 ^ width_of m name) (memory_words m kept name))
    → ((name : List ℕ) → is_of is_memory (sort_of m) name ≡ true → slice_index_or kept.memories (index_or_0 memory name) [] ≡ memory_words m kept name)
    → reads_declared (sort_of m) e ≡ true
    → expr_width (width_of m) e ≡ Some w
    → ((name : List ℕ) → Contains (names_read e) name → v name < 2 ^ width_of m name)
    → ((name : List ℕ) → Contains (names_read e) name → v name ≡ slice_index_or numbers (index_or_0 index name) 0)
    → Computes numbers kept.memories w (number_of m kept v e) (resolved (width_of m) index memory e)
resolved_is m kept v e w numbers index memory narrow words_within words_at reads is_width small at =
    (all_right numbers kept.memories (sort_of m) (width_of m) (memory_words m kept) v index memory narrow words_within words_at e reads w is_width
    (λ name read. record { small = small name read; at = at name read })).1

pub is_term : (names : NameIndex) (index memory : List ℕ → Option ℕ) (e : Expr) (r : Resolved) → r ≡ resolved (width_under names) index memory e → IsTermOf names index memory e r
is_term names index memory e r is m kept v numbers w knows is_width indexed =
    let right = resolved_is m kept v e w numbers index memory indexed.narrow indexed.words_small indexed.words_at indexed.declared is_width indexed.small indexed.at in
    let same = is ∙ ap (λ (width : List ℕ → ℕ). resolved width index memory e) (width_is m names knows) in
    let here = subst (Computes numbers kept.memories w (number_of m kept v e)) (sym same) right in
    (here.same, here.wide)
