-- The numbers of expressions fit the widths that the rules give them.
use Rattle.std.proofs.Common.{◌≡◌, ℕ, zero, suc, ◌+◌, ◌-◌, ◌*◌, ◌/◌, ◌%◌, ◌^◌, ◌<◌, ◌≤◌, nat_eq, nat_lt, nat_le, Bool, true, false, ◌&&◌, ◌||◌, cond, List, [], ◌∷◌, map, Option, Some, None, refl, sym, ap, subst, ◌∙◌, arith, rules, slice_index_or, pow_pos}
use Rattle.std.specs.Prelude.{Contains, fold, option_map, option_and_then}
use Rattle.std.specs.Int.{bit_at}
use Rattle.std.specs.List.{AllByRecursion, flat_map}
use Rattle.std.proofs.Math.Nat.{mod-lt}
use Rattle.std.proofs.lemmas.Nat.{mul-add-lt, pow-add}
use Rattle.std.proofs.lemmas.Nat.Bits.{bit_at-lt}
use Rattle.lg_vtree.specs.declared.expr.Constant.{Constant}
use Rattle.lg_vtree.specs.declared.expr.Operator.{Operator}
use Rattle.lg_vtree.specs.declared.expr.Operator.TheVariants as operator
use Rattle.lg_vtree.specs.declared.expr.Expr.{Expr}
use Rattle.lg_vtree.specs.declared.expr.Expr.TheFolds.{map-Expr, fold-roll-Expr}
use Rattle.lg_vtree.specs.declared.expr.Expr.TheOpen.{Expr-F}
use Rattle.lg_vtree.specs.declared.module.Module.{Module}
use Rattle.lg_vrules.specs.Things.{width_of}
use Rattle.lg_vrules.specs.Rules.{operator_width, is_shift, sum_of, where_, at_most_128, binary_width, choice_width, constant_fits, form_width, expr_width}
use Rattle.lg_vrules.specs.Depends.{form_names, names_read}
use Rattle.lg_vmachine.specs.Kept.{Kept}
use Rattle.lg_vresolve.specs.Meaning.{Valuation, operator_value, joined, memory_words, form_number}
use Rattle.lg_vresolve.proofs.ExprInduction.{parts, by_forms}
use Rattle.lg_vresolve.proofs.OperatorLemmas.{operator_within}
use Rattle.lg_vresolve.proofs.TermLemmas.{AtEach, at_one, at_left, at_right, at_three, names-roll, sized, sized-roll}

-- a width of at most 128 bits, and a number that it can hold
pub record IsWithin (w : ℕ) (p : ℕ × ℕ) : Type 0 where
  pub wide : p.0 ≡ w
  pub narrow : w ≤ 128
  pub within : p.1 < 2 ^ w

pub both : (a b : Bool) → (a && b) ≡ true → (a ≡ true) × (b ≡ true)
both true b e = (refl, e)
both false b e = absurd cc

-- what is computed from an option is there only where the option is
pub bound : (o : Option ℕ) (F : ℕ → Option ℕ) (w : ℕ) → option_and_then F o ≡ Some w → (x : ℕ) × (o ≡ Some x) × (F x ≡ Some w)
bound None F w e = absurd cc
bound (Some x) F w e = (x, refl, e)

pub where-some : (test : Bool) (k w : ℕ) → where_ test k ≡ Some w → (test ≡ true) × (k ≡ w)
where-some true k w e = (refl, cc)
where-some false k w e = absurd cc

within_where : (test : Bool) (k w : ℕ) (p : ℕ × ℕ) → where_ test k ≡ Some w → (test ≡ true → IsWithin k p) → IsWithin w p
within_where test k w p e inside = let s = where-some test k w e in subst (λ n. IsWithin n p) s.1 (inside s.0)

-- the first of some widths, and the sum of the rest
pub record SumParts (o s : Option ℕ) (t : ℕ) : Type 0 where
  pub first : ℕ
  pub rest : ℕ
  pub is_first : o ≡ Some first
  pub is_rest : s ≡ Some rest
  pub total : first + rest ≡ t

pub sum_parts : (o s : Option ℕ) (t : ℕ) → option_and_then (λ first. option_map (λ rest. first + rest) s) o ≡ Some t → SumParts o s t
sum_parts None s t e = absurd cc
sum_parts (Some x) None t e = absurd cc
sum_parts (Some x) (Some y) t e = record { first = x; rest = y; is_first = refl; is_rest = refl; total = cc }

pub at_most : (s : Option ℕ) (w : ℕ) → option_and_then at_most_128 s ≡ Some w → (s ≡ Some w) × (w ≤ 128)
at_most None w e = absurd cc
at_most (Some t) w e =
    let s = where-some (nat_le t 128) t w e in
    let small : t ≤ 128 = (let test = s.0 in search rules) in
    (ap (λ (n : ℕ). Some n) s.1, subst (λ n. n ≤ 128) s.1 small)

pub constant_parts : (c : Constant) → constant_fits c ≡ true → (c.width ≤ 128) × (c.value < 2 ^ c.width)
constant_parts c test =
    let least = both (nat_le 1 c.width) (nat_le c.width 128 && nat_lt c.value (2 ^ c.width)) test in
    let others = both (nat_le c.width 128) (nat_lt c.value (2 ^ c.width)) least.1 in
    let first = others.0 in
    let second = others.1 in
    (search rules, search rules)

-- the indexes of a part stand in order, below the width
pub part_indexes : (width high low : ℕ) → (nat_lt 1 width && (nat_le low high && nat_lt high width)) ≡ true → (low ≤ high) × (high < width)
part_indexes width high low test =
    let several = both (nat_lt 1 width) (nat_le low high && nat_lt high width) test in
    let others = both (nat_le low high) (nat_lt high width) several.1 in
    let first = others.0 in
    let second = others.1 in
    (search rules, search rules)

word_within : (words : List ℕ) (address k : ℕ) → AllByRecursion (λ word. word < 2 ^ k) words → slice_index_or words address 0 < 2 ^ k
word_within [] address k all = pow_pos k
word_within (word ∷ words) zero k all = all.0
word_within (word ∷ words) (suc address) k all = word_within words address k all.1

pub join_within : (x y : ℕ) (p q : ℕ × ℕ) → x + y ≤ 128 → IsWithin x p → IsWithin y q → IsWithin (x + y) (joined p q)
join_within x y p q narrow high low = record {
  wide = omega arith;
  narrow = narrow;
  within =
      let below : p.1 * 2 ^ y + q.1 < 2 ^ y * 2 ^ x = mul-add-lt p.1 (2 ^ y) q.1 (2 ^ x) high.within low.within in
      let turned : y + x ≡ x + y = omega arith in
      let power : 2 ^ y * 2 ^ x ≡ 2 ^ (x + y) = sym (pow-add 2 y x) ∙ ap (λ k. 2 ^ k) turned in
      subst (λ k. p.1 * 2 ^ k + q.1 < 2 ^ (x + y)) (sym low.wide) (subst (λ n. p.1 * 2 ^ y + q.1 < n) power below);
}

narrow_operation : (op : Operator) (x : ℕ) → x ≤ 128 → operator_width op x ≤ 128
narrow_operation operator.Equal x narrow = omega arith
narrow_operation operator.Less x narrow = omega arith
narrow_operation operator.And x narrow = narrow
narrow_operation operator.Or x narrow = narrow
narrow_operation operator.Xor x narrow = narrow
narrow_operation operator.Add x narrow = narrow
narrow_operation operator.Subtract x narrow = narrow
narrow_operation operator.Multiply x narrow = narrow
narrow_operation operator.Divide x narrow = narrow
narrow_operation operator.Remainder x narrow = narrow
narrow_operation operator.ShiftLeft x narrow = narrow
narrow_operation operator.ShiftRight x narrow = narrow

-- the right side of an operation that is no shift is as wide as the left side
pub same_width : (op : Operator) (x y : ℕ) → (is_shift op || nat_eq x y) ≡ true → is_shift op ≡ false → x ≡ y
same_width op x y test no_shift = by_test (is_shift op) test no_shift
  where
    by_test : (shift : Bool) → (shift || nat_eq x y) ≡ true → shift ≡ false → x ≡ y
    by_test true e f = absurd cc
    by_test false e f = search rules

binary_within : (op : Operator) (x y w : ℕ) (p q : ℕ × ℕ) → binary_width op x y ≡ Some w → IsWithin x p → IsWithin y q → IsWithin w (operator_width op p.0, operator_value op p.0 p.1 q.1)
binary_within op x y w p q e left right =
    within_where (is_shift op || nat_eq x y) (operator_width op x) w (operator_width op p.0, operator_value op p.0 p.1 q.1) e (λ test. record {
      wide = ap (operator_width op) left.wide;
      narrow = narrow_operation op x left.narrow;
      within =
          subst (λ k. operator_value op k p.1 q.1 < 2 ^ operator_width op x) (sym left.wide)
          (operator_within op x p.1 q.1 left.within (λ no_shift. subst (λ k. q.1 < 2 ^ k) (sym (same_width op x y test no_shift)) right.within));
    })

choice_within : (c x y w : ℕ) (r p q : ℕ × ℕ) → choice_width c x y ≡ Some w → IsWithin x p → IsWithin y q → IsWithin w (p.0, cond (nat_eq r.1 0) q.1 p.1)
choice_within c x y w r p q e first second =
    within_where (nat_eq c 1 && nat_eq x y) x w (p.0, cond (nat_eq r.1 0) q.1 p.1) e (λ test. record {
      wide = first.wide;
      narrow = first.narrow;
      within =
          let same : x ≡ y = (let tests = (both (nat_eq c 1) (nat_eq x y) test).1 in search rules) in
          by_choice (nat_eq r.1 0) (subst (λ k. q.1 < 2 ^ k) (sym same) second.within) first.within;
    })
  where
    by_choice : (zero : Bool) → q.1 < 2 ^ x → p.1 < 2 ^ x → cond zero q.1 p.1 < 2 ^ x
    by_choice true below above = below
    by_choice false below above = above

module _ (width : List ℕ → ℕ) (words : List ℕ → List ℕ) (v : Valuation)
    (narrow : (name : List ℕ) → width name ≤ 128)
    (words_within : (name : List ℕ) → AllByRecursion (λ word. word < 2 ^ width name) (words name)) where
  abbrev Small : List ℕ → Type 0
  Small name = v name < 2 ^ width name

  abbrev Fits : Expr → Type 0
  Fits e = (w : ℕ) → expr_width width e ≡ Some w → AtEach Small (names_read e) → IsWithin w (sized width words v e)

  joined_within : (es : List Expr) → AllByRecursion Fits es → (x t : ℕ) (p : ℕ × ℕ) → sum_of (map (expr_width width) es) ≡ Some t → x + t ≤ 128
      → AtEach Small (flat_map (λ names. names) (map names_read es)) → IsWithin x p → IsWithin (x + t) (fold joined p (map (sized width words v) es))
  joined_within [] fits x t p e small each inside = let none : x ≡ x + t = (let zero : 0 ≡ t = cc in omega arith) in subst (λ n. IsWithin n p) none inside
  joined_within (e ∷ es) fits x t p is_sum small each inside =
      let s = sum_parts (expr_width width e) (sum_of (map (expr_width width) es)) t is_sum in
      let rest = flat_map (λ names. names) (map names_read es) in
      let here = fits.0 s.first s.is_first (at_left Small (names_read e) rest each) in
      let both = join_within x s.first p (sized width words v e) (omega (arith, s.total)) inside here in
      let all = joined_within es fits.1 (x + s.first) s.rest (joined p (sized width words v e)) s.is_rest (omega (arith, s.total)) (at_right Small (names_read e) rest each) both in
      let total : x + s.first + s.rest ≡ x + t = omega (arith, s.total) in
      subst (λ n. IsWithin n (fold joined p (map (sized width words v) (e ∷ es)))) total all

  fits_form : (f : Expr-F Expr) → AllByRecursion Fits (parts f) → (w : ℕ) → form_width width (map-Expr Expr (Option ℕ) (expr_width width) f) ≡ Some w
      → AtEach Small (form_names (map-Expr Expr (List (List ℕ)) names_read f)) → IsWithin w (form_number width words v (map-Expr Expr (ℕ × ℕ) (sized width words v) f))
  fits_form (Expr-F.Const c) fits w e each =
      within_where (constant_fits c) c.width w (c.width, c.value) e (λ test.
      let parts = constant_parts c test in
      record { wide = refl; narrow = parts.0; within = parts.1 })
  fits_form (Expr-F.Whole name) fits w e each =
      let same : width name ≡ w = cc in
      subst (λ n. IsWithin n (width name, v name)) same (record { wide = refl; narrow = narrow name; within = at_one Small name each })
  fits_form (Expr-F.Bit name index) fits w e each =
      within_where (nat_lt 1 (width name) && nat_lt index (width name)) 1 w (1, bit_at (v name) index) e (λ test. record { wide = refl; narrow = omega arith; within = bit_at-lt (v name) index })
  fits_form (Expr-F.Part name high low) fits w e each =
      within_where (nat_lt 1 (width name) && (nat_le low high && nat_lt high (width name))) (high + 1 - low) w (high + 1 - low, (v name / 2 ^ low) % 2 ^ (high + 1 - low)) e (λ test.
      let indexes = part_indexes (width name) high low test in
      record { wide = refl; narrow = omega (arith, narrow name, indexes.1); within = mod-lt (v name / 2 ^ low) (pow_pos (high + 1 - low)) })
  fits_form (Expr-F.Item name e) fits w is_width each = by_address (expr_width width e) is_width
    where
      by_address : (o : Option ℕ) → option_map (λ (address : ℕ). width name) o ≡ Some w → IsWithin w (width name, slice_index_or (words name) (sized width words v e).1 0)
      by_address None none = absurd cc
      by_address (Some address) some =
          let same : width name ≡ w = cc in
          subst (λ n. IsWithin n (width name, slice_index_or (words name) (sized width words v e).1 0)) same
          (record { wide = refl; narrow = narrow name; within = word_within (words name) (sized width words v e).1 (width name) (words_within name) })
  fits_form (Expr-F.Join a b more) fits w e each =
      let names = at_three Small (names_read a) (names_read b) (flat_map (λ names. names) (map names_read more)) each in
      let sum = at_most (sum_of (map (expr_width width) (a ∷ b ∷ more))) w e in
      let s = sum_parts (expr_width width a) (sum_of (map (expr_width width) (b ∷ more))) w sum.0 in
      subst (λ n. IsWithin n (fold joined (sized width words v a) (map (sized width words v) (b ∷ more)))) s.total
      (joined_within (b ∷ more) fits.1 s.first s.rest (sized width words v a) s.is_rest (subst (λ n. n ≤ 128) (sym s.total) sum.1) names.1 (fits.0 s.first s.is_first names.0))
  fits_form (Expr-F.Not e) fits w is_width each =
      let inner = fits.0 w is_width each in
      let s = sized width words v e in
      record { wide = inner.wide; narrow = inner.narrow; within = omega (arith, pow_pos w, ap (λ (k : ℕ). 2 ^ k) inner.wide) }
  fits_form (Expr-F.Binary a op b) fits w e each =
      let left = bound (expr_width width a) _ w e in
      let right = bound (expr_width width b) _ w left.2 in
      binary_within op left.0 right.0 w (sized width words v a) (sized width words v b) right.2
      (fits.0 left.0 left.1 (at_left Small (names_read a) (names_read b) each)) (fits.1.0 right.0 right.1 (at_right Small (names_read a) (names_read b) each))
  fits_form (Expr-F.Choice c a b) fits w e each =
      let names = (at_three Small (names_read c) (names_read a) (names_read b) each).1 in
      let condition = bound (expr_width width c) _ w e in
      let first = bound (expr_width width a) _ w condition.2 in
      let second = bound (expr_width width b) _ w first.2 in
      choice_within condition.0 first.0 second.0 w (sized width words v c) (sized width words v a) (sized width words v b) second.2
      (fits.1.0 first.0 first.1 (at_left Small (names_read a) (names_read b) names)) (fits.1.1.0 second.0 second.1 (at_right Small (names_read a) (names_read b) names))

  pub all_fit : (e : Expr) → Fits e
  all_fit = by_forms Fits (λ f fits w e each.
      subst (IsWithin w) (sym (sized-roll width words v f))
      (fits_form f fits w (sym (fold-roll-Expr (Option ℕ) (form_width width) f) ∙ e) (subst (AtEach Small) (names-roll f) each)))

-- where the names that an expression reads have numbers that their widths can hold, and so have the words of memories, so has the expression
pub fits : (m : Module) (kept : Kept) (v : Valuation) (e : Expr) (w : ℕ)
    → ((name : List ℕ) → width_of m name ≤ 128)
    → ((name : List ℕ) → AllByRecursion (λ word. word < 2 ^ width_of m name) (memory_words m kept name))
    → expr_width (width_of m) e ≡ Some w
    → ((name : List ℕ) → Contains (names_read e) name → v name < 2 ^ width_of m name)
    → IsWithin w (sized (width_of m) (memory_words m kept) v e)
fits m kept v e w narrow words_within = all_fit (width_of m) (memory_words m kept) v narrow words_within e w
