-- What the proof asks of a kind: its equation reads just its own inputs, fits them, and gives the kind's answer.
use Rattle.std.proofs.Common.{◌≡◌, ℕ, ◌+◌, ◌-◌, ◌^◌, ◌≤◌, Bool, true, List, [], ◌∷◌, ◌++◌, length, map, fold, Option, Some, refl, sym, ap, subst, ◌∙◌, arith, inl, inr, ◌⊎◌}
use Rattle.std.specs.Prelude.{max, bit_and, bit_or, Contains}
use Rattle.std.proofs.lemmas.Bool.{and_from}
use Rattle.lg_netlist.specs.declared.netlist.Cell.{Cell}
use Rattle.lg_netlist.specs.declared.netlist.Cell.TheVariants as cell
use Rattle.lg_vtree.specs.declared.expr.Expr.{Expr, fold-Expr}
use Rattle.lg_vtree.specs.declared.expr.Expr.TheFolds.{fold-roll-Expr}
use Rattle.lg_vtree.specs.declared.expr.Expr.TheVariants.{rolls-Whole, rolls-Not, rolls-Binary}
use Rattle.lg_vtree.specs.declared.expr.Expr.TheOpen.{Expr-F}
use Rattle.lg_vtree.specs.declared.expr.Expr.TheVariants as expr
use Rattle.lg_vtree.specs.declared.expr.Operator.{Operator}
use Rattle.lg_vtree.specs.declared.expr.Operator.TheVariants as operator
use Rattle.lg_vtree.specs.declared.module.Module.{Module}
use Rattle.lg_vtree.specs.Depth.{form_depth, depth}
use Rattle.lg_vrules.specs.declared.names.Sort.{Sort}
use Rattle.lg_vrules.specs.Depends.{form_names, names_read}
use Rattle.lg_vrules.specs.Inside.{form_inside, holds_inside}
use Rattle.lg_vrules.specs.Rules.{is_of, form_reads, reads_declared, form_width, expr_width, divides_safely, address_fits, all_address}
use Rattle.lg_vrules.specs.Things.{width_of, is_readable}
use Rattle.lg_vmachine.specs.Kept.{Kept}
use Rattle.lg_vresolve.specs.Meaning.{Valuation, number_of, form_number, memory_words, operator_value}
use Rattle.lg_vmeaning.specs.InOrder.{IsIn}
use Rattle.lg_export.specs.Layout.{equation, joined}
use Rattle.lg_export.proofs.Items.{IsItem, item_either, contains_item, item_contains}

-- ---- folds over the forms that kinds write

pub fold-Whole : {A : Type 0} (step : Expr-F A → A) (name : List ℕ) → fold-Expr A step (expr.Whole name) ≡ step (Expr-F.Whole name)
fold-Whole {A = A} step name = ap (λ (e : Expr). fold-Expr A step e) (sym (rolls-Whole name)) ∙ fold-roll-Expr A step (Expr-F.Whole name)

fold-Not : {A : Type 0} (step : Expr-F A → A) (e : Expr) → fold-Expr A step (expr.Not e) ≡ step (Expr-F.Not (fold-Expr A step e))
fold-Not {A = A} step e = ap (λ (x : Expr). fold-Expr A step x) (sym (rolls-Not e)) ∙ fold-roll-Expr A step (Expr-F.Not e)

fold-Binary : {A : Type 0} (step : Expr-F A → A) (a : Expr) (op : Operator) (b : Expr) → fold-Expr A step (expr.Binary a op b) ≡ step (Expr-F.Binary (fold-Expr A step a) op (fold-Expr A step b))
fold-Binary {A = A} step a op b = ap (λ (x : Expr). fold-Expr A step x) (sym (rolls-Binary a op b)) ∙ fold-roll-Expr A step (Expr-F.Binary a op b)

abbrev pub wholes : List (List ℕ) → List Expr
wholes names = map expr.Whole names

-- what holds of names, and of an operation where it holds of both sides, holds of the equation
joined_holds : (P : Expr → Type 0) (op : Operator) → ((a b : Expr) → P a → P b → P (expr.Binary a op b)) → (e : Expr) (names : List (List ℕ)) → P e → ((other : List ℕ) → IsIn names other → P (expr.Whole other))
    → P (fold (λ a b. expr.Binary a op b) e (wholes names))
joined_holds P op both e [] here each = here
joined_holds P op both e (name ∷ names) here each = joined_holds P op both (expr.Binary e op (expr.Whole name)) names (both e (expr.Whole name) here (each name (inl refl))) (λ other h. each other (inr h))

-- a property that the forms of equations keep
record Keeps (P : Expr → Type 0) : Type 0 where
  pub not : (e : Expr) → P e → P (expr.Not e)
  pub and : (a b : Expr) → P a → P b → P (expr.Binary a operator.And b)
  pub or : (a b : Expr) → P a → P b → P (expr.Binary a operator.Or b)

equation_holds : (P : Expr → Type 0) → Keeps P → (c : Cell) (name : List ℕ) (names : List (List ℕ)) → ((other : List ℕ) → IsIn (name ∷ names) other → P (expr.Whole other)) → P (equation c (wholes (name ∷ names)))
equation_holds P keeps cell.Not name names each = keeps.not (expr.Whole name) (each name (inl refl))
equation_holds P keeps cell.And name names each = joined_holds P operator.And keeps.and (expr.Whole name) names (each name (inl refl)) (λ other h. each other (inr h))
equation_holds P keeps cell.Or name names each = joined_holds P operator.Or keeps.or (expr.Whole name) names (each name (inl refl)) (λ other h. each other (inr h))

-- ---- what an equation reads, and whether it fits

either_part : {A : Type 0} (xs ys : List A) (x : A) → Contains (xs ++ ys) x → Contains xs x ⊎ Contains ys x
either_part xs ys x h = elim (item_either xs ys x (contains_item (xs ++ ys) x h)) [ inl a ↦ inl (item_contains xs x a) | inr b ↦ inr (item_contains ys x b) ]

-- an expression reads these names alone
abbrev Reads : List (List ℕ) → Expr → Type 0
Reads names e = (other : List ℕ) → Contains (names_read e) other → IsIn names other

pub equation_reads : (c : Cell) (name : List ℕ) (names : List (List ℕ)) (other : List ℕ) → Contains (names_read (equation c (wholes (name ∷ names)))) other → IsIn (name ∷ names) other
equation_reads c name names = equation_holds (Reads (name ∷ names)) (record { not = λ e h. by_not e h; and = λ a b ha hb. by_binary a operator.And b ha hb; or = λ a b ha hb. by_binary a operator.Or b ha hb }) c name names (λ other here read h. one other here read h)
  where
    by_not : (e : Expr) → Reads (name ∷ names) e → Reads (name ∷ names) (expr.Not e)
    by_not e h other read = h other (subst (λ (ns : List (List ℕ)). Contains ns other) (fold-Not form_names e) read)

    by_binary : (a : Expr) (op : Operator) (b : Expr) → Reads (name ∷ names) a → Reads (name ∷ names) b → Reads (name ∷ names) (expr.Binary a op b)
    by_binary a op b ha hb other read = elim (either_part (names_read a) (names_read b) other (subst (λ (ns : List (List ℕ)). Contains ns other) (fold-Binary form_names a op b) read)) [
      | inl left ↦ ha other left
      | inr right ↦ hb other right
    ]

    one : (whole : List ℕ) → IsIn (name ∷ names) whole → Reads (name ∷ names) (expr.Whole whole)
    one whole here other read = only (contains_item (whole ∷ []) other (subst (λ (ns : List (List ℕ)). Contains ns other) (fold-Whole form_names whole) read))
      where
        only : IsItem (whole ∷ []) other → IsIn (name ∷ names) other
        only (inl e) = subst (IsIn (name ∷ names)) (sym e) here
        only (inr h) = absurd h

pub equation_declared : (sort : List ℕ → Option Sort) (c : Cell) (name : List ℕ) (names : List (List ℕ)) → ((other : List ℕ) → IsIn (name ∷ names) other → is_of is_readable sort other ≡ true)
    → reads_declared sort (equation c (wholes (name ∷ names))) ≡ true
equation_declared sort c name names readable =
    equation_holds (λ e. reads_declared sort e ≡ true)
    (record {
      not = λ e h. fold-Not (form_reads sort) e ∙ h;
      and = λ a b ha hb. fold-Binary (form_reads sort) a operator.And b ∙ and_from (reads_declared sort a) (reads_declared sort b) ha hb;
      or = λ a b ha hb. fold-Binary (form_reads sort) a operator.Or b ∙ and_from (reads_declared sort a) (reads_declared sort b) ha hb;
    }) c name names (λ other here. fold-Whole (form_reads sort) other ∙ readable other here)

pub equation_width : (width : List ℕ → ℕ) (c : Cell) (name : List ℕ) (names : List (List ℕ)) → ((other : List ℕ) → IsIn (name ∷ names) other → width other ≡ 1) → expr_width width (equation c (wholes (name ∷ names))) ≡ Some 1
equation_width width c name names one =
    equation_holds (λ e. expr_width width e ≡ Some 1)
    (record {
      not = λ e h. fold-Not (form_width width) e ∙ h;
      and = λ a b ha hb. fold-Binary (form_width width) a operator.And b ∙ rw (ha, hb) refl;
      or = λ a b ha hb. fold-Binary (form_width width) a operator.Or b ∙ rw (ha, hb) refl;
    }) c name names (λ other here. fold-Whole (form_width width) other ∙ ap Some (one other here))

pub equation_divides : (c : Cell) (name : List ℕ) (names : List (List ℕ)) → holds_inside divides_safely (equation c (wholes (name ∷ names))) ≡ true
equation_divides c name names =
    let step = form_inside divides_safely in
    equation_holds (λ e. holds_inside divides_safely e ≡ true)
    (record {
      not = λ e h. ap (λ (r : Expr × Bool). r.1) (fold-Not step e) ∙ h;
      and = λ a b ha hb. ap (λ (r : Expr × Bool). r.1) (fold-Binary step a operator.And b) ∙ and_from (holds_inside divides_safely a) (holds_inside divides_safely b) ha hb;
      or = λ a b ha hb. ap (λ (r : Expr × Bool). r.1) (fold-Binary step a operator.Or b) ∙ and_from (holds_inside divides_safely a) (holds_inside divides_safely b) ha hb;
    }) c name names (λ other here. ap (λ (r : Expr × Bool). r.1) (fold-Whole step other))

pub equation_address : (sort : List ℕ → Option Sort) (width : List ℕ → ℕ) (c : Cell) (name : List ℕ) (names : List (List ℕ)) → all_address sort width (equation c (wholes (name ∷ names))) ≡ true
equation_address sort width c name names =
    let here = address_fits sort width in
    let step = form_inside here in
    equation_holds (λ e. all_address sort width e ≡ true)
    (record {
      not = λ e h. ap (λ (r : Expr × Bool). r.1) (fold-Not step e) ∙ h;
      and = λ a b ha hb. ap (λ (r : Expr × Bool). r.1) (fold-Binary step a operator.And b) ∙ and_from (holds_inside here a) (holds_inside here b) ha hb;
      or = λ a b ha hb. ap (λ (r : Expr × Bool). r.1) (fold-Binary step a operator.Or b) ∙ and_from (holds_inside here a) (holds_inside here b) ha hb;
    }) c name names (λ other is. ap (λ (r : Expr × Bool). r.1) (fold-Whole step other))

-- ---- the number of an equation

abbrev form_value : Module → Kept → Valuation → Expr-F (ℕ × ℕ) → ℕ × ℕ
form_value m kept value = form_number (width_of m) (memory_words m kept) value

number-Whole : (m : Module) (kept : Kept) (value : Valuation) (name : List ℕ) → number_of m kept value (expr.Whole name) ≡ value name
number-Whole m kept value name = ap (λ (r : ℕ × ℕ). r.1) (fold-Whole (form_value m kept value) name)

number-Not : (m : Module) (kept : Kept) (value : Valuation) (name : List ℕ) → number_of m kept value (expr.Not (expr.Whole name)) ≡ 2 ^ width_of m name - 1 - value name
number-Not m kept value name =
    let step = form_value m kept value in
    ap (λ (r : ℕ × ℕ). r.1) (fold-Not step (expr.Whole name)) ∙ ap (λ (r : ℕ × ℕ). 2 ^ r.0 - 1 - r.1) (fold-Whole step name)

-- an operator that works bit by bit gives this number, whatever the width
abbrev IsBitwise : Operator → (ℕ → ℕ → ℕ) → Type 0
IsBitwise op step = (width a b : ℕ) → operator_value op width a b ≡ step a b

number-Binary : (m : Module) (kept : Kept) (value : Valuation) (a : Expr) (op : Operator) (step : ℕ → ℕ → ℕ) (b : Expr) → IsBitwise op step
    → number_of m kept value (expr.Binary a op b) ≡ step (number_of m kept value a) (number_of m kept value b)
number-Binary m kept value a op step b bitwise =
    let width = (fold-Expr (ℕ × ℕ) (form_value m kept value) a).0 in
    ap (λ (r : ℕ × ℕ). r.1) (fold-Binary (form_value m kept value) a op b) ∙ bitwise width (number_of m kept value a) (number_of m kept value b)

-- the numbers of some names, joined one after the other to a first number
abbrev pub folded : (ℕ → ℕ → ℕ) → Valuation → ℕ → List (List ℕ) → ℕ
folded step value k names = fold (λ k name. step k (value name)) k names

number-fold : (m : Module) (kept : Kept) (value : Valuation) (op : Operator) (step : ℕ → ℕ → ℕ) (e : Expr) (names : List (List ℕ)) → IsBitwise op step
    → number_of m kept value (fold (λ a b. expr.Binary a op b) e (wholes names)) ≡ folded step value (number_of m kept value e) names
number-fold m kept value op step e [] bitwise = refl
number-fold m kept value op step e (name ∷ names) bitwise =
    number-fold m kept value op step (expr.Binary e op (expr.Whole name)) names bitwise
    ∙ ap (λ (k : ℕ). folded step value k names) (number-Binary m kept value e op step (expr.Whole name) bitwise ∙ ap (step (number_of m kept value e)) (number-Whole m kept value name))

number-joined : (m : Module) (kept : Kept) (value : Valuation) (op : Operator) (step : ℕ → ℕ → ℕ) (name : List ℕ) (names : List (List ℕ)) → IsBitwise op step
    → number_of m kept value (joined op (wholes (name ∷ names))) ≡ folded step value (value name) names
number-joined m kept value op step name names bitwise =
    number-fold m kept value op step (expr.Whole name) names bitwise ∙ ap (λ (k : ℕ). folded step value k names) (number-Whole m kept value name)

-- what a gate's equation says, over the numbers of its inputs
abbrev pub gate_number : Cell → Valuation → List ℕ → List (List ℕ) → ℕ
gate_number cell.Not value name names = 1 - value name
gate_number cell.And value name names = folded bit_and value (value name) names
gate_number cell.Or value name names = folded bit_or value (value name) names

pub equation_number : (m : Module) (kept : Kept) (value : Valuation) (c : Cell) (name : List ℕ) (names : List (List ℕ)) → width_of m name ≡ 1
    → number_of m kept value (equation c (wholes (name ∷ names))) ≡ gate_number c value name names
equation_number m kept value cell.Not name names narrow = number-Not m kept value name ∙ ap (λ (w : ℕ). 2 ^ w - 1 - value name) narrow
equation_number m kept value cell.And name names narrow = number-joined m kept value operator.And bit_and name names (λ width a b. refl)
equation_number m kept value cell.Or name names narrow = number-joined m kept value operator.Or bit_or name names (λ width a b. refl)

-- ---- how deep an equation is

joined_depth : (op : Operator) (e : Expr) (names : List (List ℕ)) → depth (fold (λ a b. expr.Binary a op b) e (wholes names)) ≤ max (depth e) 1 + length names
unfolding depth
joined_depth op e [] = omega arith
joined_depth op e (name ∷ names) =
    let rest = joined_depth op (expr.Binary e op (expr.Whole name)) names in
    let here : depth (expr.Binary e op (expr.Whole name)) ≡ max (depth e) 1 + 1 = fold-Binary form_depth e op (expr.Whole name) ∙ ap (λ (d : ℕ). max (depth e) d + 1) (fold-Whole form_depth name) in
    omega (arith, rest, here)

pub equation_depth : (c : Cell) (name : List ℕ) (names : List (List ℕ)) → depth (equation c (wholes (name ∷ names))) ≤ 2 + length names
unfolding depth
equation_depth cell.Not name names =
    let here : depth (expr.Not (expr.Whole name)) ≡ 2 = fold-Not form_depth (expr.Whole name) ∙ ap (λ (d : ℕ). d + 1) (fold-Whole form_depth name) in
    omega (arith, here)
equation_depth cell.And name names = let one : depth (expr.Whole name) ≡ 1 = fold-Whole form_depth name in omega (arith, one, joined_depth operator.And (expr.Whole name) names)
equation_depth cell.Or name names = let one : depth (expr.Whole name) ≡ 1 = fold-Whole form_depth name in omega (arith, one, joined_depth operator.Or (expr.Whole name) names)
