-- The numbers of expressions: which names they come from.
use Rattle.std.proofs.Common.{◌≡◌, ℕ, ◌+◌, ◌-◌, ◌/◌, ◌%◌, ◌^◌, nat_eq, cond, List, [], ◌∷◌, ◌++◌, map, append_assoc, refl, sym, ap, subst, ◌∙◌, arith, slice_index_or}
use Rattle.std.specs.Prelude.{Contains, fold}
use Rattle.std.specs.Int.{bit_at}
use Rattle.std.specs.List.{AllByRecursion, flat_map}
use Rattle.std.proofs.lemmas.List.Elements.{Contains-append_left, Contains-append_right}
use Rattle.lg_vtree.specs.declared.expr.Expr.{Expr, fold-Expr, roll-Expr}
use Rattle.lg_vtree.specs.declared.expr.Expr.TheFolds.{map-Expr, fold-roll-Expr}
use Rattle.lg_vtree.specs.declared.expr.Expr.TheOpen.{Expr-F}
use Rattle.lg_vtree.specs.declared.module.Module.{Module}
use Rattle.lg_vrules.specs.Things.{width_of}
use Rattle.lg_vrules.specs.Rules.{operator_width}
use Rattle.lg_vrules.specs.Depends.{form_names, names_read}
use Rattle.lg_vmachine.specs.Kept.{Kept}
use Rattle.lg_vresolve.specs.Meaning.{Valuation, operator_value, joined, memory_words, form_number, number_of}
use Rattle.lg_vresolve.proofs.ExprInduction.{parts, by_forms}

-- it holds of each of these names
abbrev pub AtEach : (List ℕ → Type 0) → List (List ℕ) → Type 0
AtEach P names = (name : List ℕ) → Contains names name → P name

pub at_one : (P : List ℕ → Type 0) (name : List ℕ) → AtEach P (name ∷ []) → P name
at_one P name each = each name (0, omega arith, refl)

pub at_left : (P : List ℕ → Type 0) (some others : List (List ℕ)) → AtEach P (some ++ others) → AtEach P some
at_left P some others each = λ name here. each name (Contains-append_left some others name here)

pub at_right : (P : List ℕ → Type 0) (some others : List (List ℕ)) → AtEach P (some ++ others) → AtEach P others
at_right P some others each = λ name here. each name (Contains-append_right some others name here)

-- of names in a row of three parts, those of the first and those of the others
pub at_three : (P : List ℕ → Type 0) (first second third : List (List ℕ)) → AtEach P (first ++ second ++ third) → AtEach P first × AtEach P (second ++ third)
at_three P first second third each = (
  at_left P first second (at_left P (first ++ second) third each),
  at_right P first (second ++ third) (subst (AtEach P) (append_assoc first second third) each),
)

pub names-roll : (f : Expr-F Expr) → names_read (roll-Expr f) ≡ form_names (map-Expr Expr (List (List ℕ)) names_read f)
names-roll f = fold-roll-Expr (List (List ℕ)) form_names f

-- the width and the number of an expression
abbrev pub sized : (List ℕ → ℕ) → (List ℕ → List ℕ) → Valuation → Expr → ℕ × ℕ
sized width words v e = fold-Expr (ℕ × ℕ) (form_number width words v) e

pub sized-roll : (width : List ℕ → ℕ) (words : List ℕ → List ℕ) (v : Valuation) (f : Expr-F Expr)
    → sized width words v (roll-Expr f) ≡ form_number width words v (map-Expr Expr (ℕ × ℕ) (sized width words v) f)
sized-roll width words v f = fold-roll-Expr (ℕ × ℕ) (form_number width words v) f

module _ (width : List ℕ → ℕ) (words : List ℕ → List ℕ) (v w : Valuation) where
  abbrev Agree : List ℕ → Type 0
  Agree name = v name ≡ w name

  abbrev IsSame : Expr → Type 0
  IsSame e = AtEach Agree (names_read e) → sized width words v e ≡ sized width words w e

  same_list : (es : List Expr) → AllByRecursion IsSame es → AtEach Agree (flat_map (λ names. names) (map names_read es)) → map (sized width words v) es ≡ map (sized width words w) es
  same_list [] same each = refl
  same_list (e ∷ es) same each =
      let rest = flat_map (λ names. names) (map names_read es) in
      λ i. same.0 (at_left Agree (names_read e) rest each) i ∷ same_list es same.1 (at_right Agree (names_read e) rest each) i

  same_form : (f : Expr-F Expr) → AllByRecursion IsSame (parts f) → AtEach Agree (form_names (map-Expr Expr (List (List ℕ)) names_read f))
      → form_number width words v (map-Expr Expr (ℕ × ℕ) (sized width words v) f) ≡ form_number width words w (map-Expr Expr (ℕ × ℕ) (sized width words w) f)
  same_form (Expr-F.Const c) same each = refl
  same_form (Expr-F.Whole name) same each = ap (λ n. (width name, n)) (at_one Agree name each)
  same_form (Expr-F.Bit name index) same each = ap (λ n. (1, bit_at n index)) (at_one Agree name each)
  same_form (Expr-F.Part name high low) same each = ap (λ n. (high + 1 - low, (n / 2 ^ low) % 2 ^ (high + 1 - low))) (at_one Agree name each)
  same_form (Expr-F.Item name e) same each = ap (λ (p : ℕ × ℕ). (width name, slice_index_or (words name) p.1 0)) (same.0 each)
  same_form (Expr-F.Join a b more) same each =
      let names = at_three Agree (names_read a) (names_read b) (flat_map (λ names. names) (map names_read more)) each in
      λ i. fold joined (same.0 names.0 i) (same_list (b ∷ more) same.1 names.1 i)
  same_form (Expr-F.Not e) same each = ap (λ (p : ℕ × ℕ). (p.0, 2 ^ p.0 - 1 - p.1)) (same.0 each)
  same_form (Expr-F.Binary a op b) same each =
      ap (λ (p : (ℕ × ℕ) × (ℕ × ℕ)). (operator_width op p.0.0, operator_value op p.0.0 p.0.1 p.1.1))
      (λ i. (same.0 (at_left Agree (names_read a) (names_read b) each) i, same.1.0 (at_right Agree (names_read a) (names_read b) each) i))
  same_form (Expr-F.Choice c a b) same each =
      let names = at_three Agree (names_read c) (names_read a) (names_read b) each in
      ap (λ (p : (ℕ × ℕ) × ((ℕ × ℕ) × (ℕ × ℕ))). (p.1.0.0, cond (nat_eq p.0.1 0) p.1.1.1 p.1.0.1))
      (λ i. (same.0 names.0 i, (same.1.0 (at_left Agree (names_read a) (names_read b) names.1) i, same.1.1.0 (at_right Agree (names_read a) (names_read b) names.1) i)))

  pub same_sized : (e : Expr) → IsSame e
  same_sized = by_forms IsSame (λ f same each. sized-roll width words v f ∙ (same_form f same (subst (AtEach Agree) (names-roll f) each) ∙ sym (sized-roll width words w f)))

-- an expression's number comes from the numbers of the names that it reads, and from memories
pub reads_only : (m : Module) (kept : Kept) (v w : Valuation) (e : Expr) → ((name : List ℕ) → Contains (names_read e) name → v name ≡ w name) → number_of m kept v e ≡ number_of m kept w e
reads_only m kept v w e agree = ap (λ (p : ℕ × ℕ). p.1) (same_sized (width_of m) (memory_words m kept) v w e agree)
