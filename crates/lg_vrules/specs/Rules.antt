-- Which modules are valid: seven rules, of which each later one is asked only where the earlier ones hold.
-- Source: IEEE 1364-2005, 12.3 (ports), 4.2 and 4.9 (declarations), 5.4 (widths of expressions), 6.1 and 9.2 (assignments), in a narrower form.
use Rattle.std.specs.Prelude.{ℕ, zero, suc, sum_by, ◌+◌, ◌-◌, ◌^◌, ◌==◌, nat_le, nat_lt, Bool, true, false, not, ◌&&◌, ◌||◌, List, [], ◌∷◌, map, length, take, Option, Some, None, option_map, option_and_then, unwrap_or, is_some, codes, if◌then◌else◌}
use Rattle.std.specs.List.{list_all}
use Rattle.std.specs.Str.{bytes_eq}
pub use Rattle.lg_vnames.specs.Names.{is_among, all_differ}
use Rattle.lg_vtree.specs.declared.module.Port.{Port}
use Rattle.lg_vtree.specs.declared.module.Fill.{Fill}
use Rattle.lg_vtree.specs.declared.module.Word.{Word}
use Rattle.lg_vtree.specs.declared.module.Init.{Init}
use Rattle.lg_vtree.specs.declared.module.Decl.{Decl}
use Rattle.lg_vtree.specs.declared.module.Decl.TheVariants as decl
use Rattle.lg_vtree.specs.declared.module.Assign.{Assign}
use Rattle.lg_vtree.specs.declared.module.Stmt.{Stmt}
use Rattle.lg_vtree.specs.declared.module.Stmt.TheVariants as stmt
use Rattle.lg_vtree.specs.declared.module.Edge.{Edge}
use Rattle.lg_vtree.specs.declared.module.Module.{Module}
use Rattle.lg_vtree.specs.declared.expr.Constant.{Constant}
use Rattle.lg_vtree.specs.declared.expr.Operator.{Operator}
use Rattle.lg_vtree.specs.declared.expr.Operator.TheVariants as operator
use Rattle.lg_vtree.specs.declared.expr.Expr.{Expr, fold-Expr, out-Expr}
use Rattle.lg_vtree.specs.declared.expr.Expr.TheOpen.{Expr-F}
use Rattle.lg_vtree.specs.Printed.{operator_text}
use Rattle.lg_vrules.specs.declared.names.Sort.{Sort}
use Rattle.lg_vrules.specs.declared.names.Sort.TheVariants as sort
use Rattle.lg_vrules.specs.declared.names.Thing.{Thing}
use Rattle.lg_vrules.specs.Inside.{holds_inside}
use Rattle.lg_vrules.specs.Things.{range_width, things, port_thing, decl_thing, names, sort_of, width_of, is_reg, is_memory, is_assignable, is_readable}

-- 1: declared names differ; an input is `clk`, of one bit, or begins with `i_`, and an output with `o_`

abbrev pub begins_with : List ℕ → List ℕ → Bool
begins_with start name = bytes_eq (take (length start) name) start

abbrev pub is_named : List ℕ × Thing → Bool
is_named t = of_sort t.1.sort
  where
    of_sort : Sort → Bool
    of_sort sort.Clock = range_width t.1.high == 1
    of_sort sort.Input = begins_with (codes "i_") t.0
    of_sort sort.Output = begins_with (codes "o_") t.0
    of_sort _ = true

abbrev pub are_named : Module → Bool
are_named m = all_differ (names m) && list_all (λ (p : Port). is_named (port_thing p)) m.ports

-- 2: each name is used as it is declared

-- the name is declared as a thing of this sort
abbrev pub is_of : (Sort → Bool) → (List ℕ → Option Sort) → List ℕ → Bool
is_of is sort name = unwrap_or (option_map is (sort name)) false

-- an expression reads what has a number, and words of memories
abbrev pub form_reads : (List ℕ → Option Sort) → Expr-F Bool → Bool
form_reads sort (Expr-F.Const c) = true
form_reads sort (Expr-F.Whole name) = is_of is_readable sort name
form_reads sort (Expr-F.Bit name index) = is_of is_readable sort name
form_reads sort (Expr-F.Part name high low) = is_of is_readable sort name
form_reads sort (Expr-F.Item name e) = is_of is_memory sort name && e
form_reads sort (Expr-F.Join a b more) = a && (b && list_all (λ e. e) more)
form_reads sort (Expr-F.Not e) = e
form_reads sort (Expr-F.Binary a op b) = a && b
form_reads sort (Expr-F.Choice c a b) = c && (a && b)

abbrev pub reads_declared : (List ℕ → Option Sort) → Expr → Bool
reads_declared sort e = fold-Expr Bool (form_reads sort) e

abbrev pub stmt_uses : (List ℕ → Option Sort) → Stmt → Bool
stmt_uses sort (stmt.Store name value) = is_of is_reg sort name && reads_declared sort value
stmt_uses sort (stmt.StoreIf condition name address value) =
    is_of is_memory sort name && (reads_declared sort condition && (reads_declared sort address && reads_declared sort value))

-- what an `assign` gives a number is declared, and is not the clock
abbrev pub is_target : Sort → Bool
is_target sort.Clock = false
is_target _ = true

abbrev pub assign_uses : (List ℕ → Option Sort) → Assign → Bool
assign_uses sort a = is_of is_target sort a.name && reads_declared sort a.value

abbrev pub stmts_of : Module → List Stmt
stmts_of m = unwrap_or (option_map (λ (e : Edge). e.stmts) m.edge) []

abbrev pub fills_of : Module → List Fill
fills_of m = unwrap_or (option_map (λ (i : Init). i.fills) m.init) []

abbrev pub words_of : Module → List Word
words_of m = unwrap_or (option_map (λ (i : Init). i.words) m.init) []

-- nothing but an input is called as the clock is
abbrev pub is_no_clock : Decl → Bool
is_no_clock d = not (bytes_eq (decl_thing d).0 (codes "clk"))

abbrev pub all_use : (List ℕ → Option Sort) → Module → Bool
all_use sort m =
    list_all (assign_uses sort) m.assigns && (list_all (stmt_uses sort) (stmts_of m)
    && (list_all (λ (f : Fill). is_of is_memory sort f.name) (fills_of m) && list_all (λ (w : Word). is_of is_memory sort w.name) (words_of m)))

abbrev pub are_used : (List ℕ → Option Sort) → Module → Bool
are_used sort m = list_all is_no_clock m.decls && all_use sort m

-- 3: widths, indexes and addresses fit

-- a number of a width from 1 to 128
abbrev pub constant_fits : Constant → Bool
constant_fits c = nat_le 1 c.width && (nat_le c.width 128 && nat_lt c.value (2 ^ c.width))

abbrev pub is_shift : Operator → Bool
is_shift operator.ShiftLeft = true
is_shift operator.ShiftRight = true
is_shift _ = false

-- how wide an operation is: a comparison has one bit, all else the width of its left side
abbrev pub operator_width : Operator → ℕ → ℕ
operator_width operator.Equal width = 1
operator_width operator.Less width = 1
operator_width _ width = width

-- the sum of widths, where each is there
abbrev pub sum_of : List (Option ℕ) → Option ℕ
sum_of [] = Some 0
sum_of (w ∷ more) = option_and_then (λ first. option_map (λ rest. first + rest) (sum_of more)) w

-- the width, where a test holds
abbrev pub where_ : Bool → ℕ → Option ℕ
where_ test width = if test then Some width else None

abbrev pub at_most_128 : ℕ → Option ℕ
at_most_128 width = where_ (nat_le width 128) width

abbrev pub binary_width : Operator → ℕ → ℕ → Option ℕ
binary_width op a b = where_ (is_shift op || a == b) (operator_width op a)

abbrev pub choice_width : ℕ → ℕ → ℕ → Option ℕ
choice_width c a b = where_ (c == 1 && a == b) a

abbrev pub constant_width : Constant → Option ℕ
constant_width c = where_ (constant_fits c) c.width

-- one bit of a name of several bits
abbrev pub bit_width : ℕ → ℕ → Option ℕ
bit_width width index = where_ (nat_lt 1 width && nat_lt index width) 1

-- some bits of a name of several bits
abbrev pub part_width : ℕ → ℕ → ℕ → Option ℕ
part_width width high low = where_ (nat_lt 1 width && (nat_le low high && nat_lt high width)) (high + 1 - low)

-- the width of an expression in which all widths and indexes fit
abbrev pub form_width : (List ℕ → ℕ) → Expr-F (Option ℕ) → Option ℕ
form_width width (Expr-F.Const c) = constant_width c
form_width width (Expr-F.Whole name) = Some (width name)
form_width width (Expr-F.Bit name index) = bit_width (width name) index
form_width width (Expr-F.Part name high low) = part_width (width name) high low
form_width width (Expr-F.Item name e) = option_map (λ (address : ℕ). width name) e
form_width width (Expr-F.Join a b more) = option_and_then at_most_128 (sum_of (a ∷ b ∷ more))
form_width width (Expr-F.Not e) = e
form_width width (Expr-F.Binary a op b) = option_and_then (λ left. option_and_then (binary_width op left) b) a
form_width width (Expr-F.Choice c a b) =
    option_and_then (λ condition. option_and_then (λ first. option_and_then (choice_width condition first) b) a) c

abbrev pub expr_width : (List ℕ → ℕ) → Expr → Option ℕ
expr_width width e = fold-Expr (Option ℕ) (form_width width) e

-- a declared width is 1 to 128, and 1 to 64 of a port
abbrev pub most_bits : Sort → ℕ
most_bits sort.Input = 64
most_bits sort.Output = 64
most_bits _ = 128

abbrev pub is_narrow : List ℕ × Thing → Bool
is_narrow t = nat_le (range_width t.1.high) (most_bits t.1.sort)

-- the expression fits, in this width
abbrev pub is_width : (List ℕ → ℕ) → ℕ → Expr → Bool
is_width width wanted e = unwrap_or (option_map (λ (w : ℕ). w == wanted) (expr_width width e)) false

-- a constant of the width of a name
abbrev pub constant_of : (List ℕ → ℕ) → List ℕ → Constant → Bool
constant_of width name c = constant_fits c && c.width == width name

-- a memory as a whole has no width, so what an `assign` would give it fits in any
abbrev pub assign_fits : (List ℕ → Option Sort) → (List ℕ → ℕ) → Assign → Bool
assign_fits sort width a =
    if is_of is_memory sort a.name then is_some (expr_width width a.value) else is_width width (width a.name) a.value

abbrev pub stmt_fits : (List ℕ → ℕ) → Stmt → Bool
stmt_fits width (stmt.Store name value) = is_width width (width name) value
stmt_fits width (stmt.StoreIf condition name address value) =
    is_width width 1 condition && (is_some (expr_width width address) && is_width width (width name) value)

abbrev pub decl_fits : (List ℕ → ℕ) → Decl → Bool
decl_fits width (decl.Wire range name) = true
decl_fits width (decl.Reg range name start) = constant_of width name start
decl_fits width (decl.Memory range name last) = true

-- the last address of a memory, and 0 of what is none
abbrev pub last_address : Option Sort → ℕ
last_address (Some (sort.Memory last)) = last
last_address _ = 0

abbrev pub word_fits : (List ℕ → Option Sort) → (List ℕ → ℕ) → Word → Bool
word_fits sort width w = nat_le w.address (last_address (sort w.name)) && constant_of width w.name w.value

abbrev pub are_narrow : Module → Bool
are_narrow m = list_all (λ (p : Port). is_narrow (port_thing p)) m.ports && list_all (λ (d : Decl). is_narrow (decl_thing d)) m.decls

abbrev pub fill_fits : (List ℕ → ℕ) → Fill → Bool
fill_fits width f = constant_of width f.name f.value

abbrev pub are_fitting : (List ℕ → Option Sort) → (List ℕ → ℕ) → Module → Bool
are_fitting sort width m =
    list_all (decl_fits width) m.decls && (list_all (fill_fits width) (fills_of m) && (list_all (word_fits sort width) (words_of m)
    && (list_all (assign_fits sort width) m.assigns && list_all (stmt_fits width) (stmts_of m))))

-- each thing of a sort is one of these
abbrev pub has_each : (Sort → Bool) → (List ℕ → Bool) → Module → Bool
has_each is holds m = list_all (λ (t : List ℕ × Thing). not (is t.1.sort) || holds t.0) (things m)

-- 4: wires and outputs, and they alone, have one assign each

abbrev pub assigned : Module → List (List ℕ)
assigned m = map (λ (a : Assign). a.name) m.assigns

abbrev pub are_assigned_once : (List ℕ → Option Sort) → Module → Bool
are_assigned_once sort m =
    all_differ (assigned m) && (list_all (λ (a : Assign). is_of is_assignable sort a.name) m.assigns && has_each is_assignable (λ name. is_among name (assigned m)) m)

-- 5: a register has one store and a memory one or none, at an edge of the clock; a memory has one fill, which is as long as it is

abbrev pub stored_name : Stmt → List ℕ
stored_name (stmt.Store name value) = name
stored_name (stmt.StoreIf condition name address value) = name

abbrev pub stored : Module → List (List ℕ)
stored m = map stored_name (stmts_of m)

abbrev pub filled : Module → List (List ℕ)
filled m = map (λ (f : Fill). f.name) (fills_of m)

abbrev pub is_clock : Sort → Bool
is_clock sort.Clock = true
is_clock _ = false

-- an edge needs the clock
abbrev pub is_clocked : (List ℕ → Option Sort) → Module → Bool
is_clocked sort m = not (is_some m.edge) || is_of is_clock sort (codes "clk")

abbrev pub fill_is_whole : (List ℕ → Option Sort) → Fill → Bool
fill_is_whole sort f = f.count == last_address (sort f.name) + 1

abbrev pub are_stored_once : (List ℕ → Option Sort) → Module → Bool
are_stored_once sort m = all_differ (stored m) && (has_each is_reg (λ name. is_among name (stored m)) m && is_clocked sort m)

abbrev pub are_filled_once : (List ℕ → Option Sort) → Module → Bool
are_filled_once sort m =
    all_differ (filled m) && (list_all (fill_is_whole sort) (fills_of m) && has_each is_memory (λ name. is_among name (filled m)) m)

abbrev pub are_kept_once : (List ℕ → Option Sort) → Module → Bool
are_kept_once sort m = are_stored_once sort m && are_filled_once sort m

-- 6: a divisor is a constant that is not 0, or an expression that stands behind a test for 0: `((e == 8'd0) ? 8'd1 : e)`

abbrev pub same_each : List (Expr → Bool) → List Expr → Bool
same_each [] [] = true
same_each (a ∷ more) (b ∷ others) = a b && same_each more others
same_each _ _ = false

-- the forms are the same, and so are their parts
abbrev pub same_form : Expr-F (Expr → Bool) → Expr-F Expr → Bool
same_form (Expr-F.Const c) (Expr-F.Const d) = c.width == d.width && c.value == d.value
same_form (Expr-F.Whole name) (Expr-F.Whole other) = bytes_eq name other
same_form (Expr-F.Bit name index) (Expr-F.Bit other at) = bytes_eq name other && index == at
same_form (Expr-F.Part name high low) (Expr-F.Part other top bottom) = bytes_eq name other && (high == top && low == bottom)
same_form (Expr-F.Item name e) (Expr-F.Item other f) = bytes_eq name other && e f
same_form (Expr-F.Join a b more) (Expr-F.Join x y others) = a x && (b y && same_each more others)
same_form (Expr-F.Not e) (Expr-F.Not f) = e f
same_form (Expr-F.Binary a op b) (Expr-F.Binary x other y) = a x && (bytes_eq (operator_text op) (operator_text other) && b y)
same_form (Expr-F.Choice c a b) (Expr-F.Choice d x y) = c d && (a x && b y)
same_form _ _ = false

-- two expressions are the same
abbrev pub same : Expr → Expr → Bool
same e other = fold-Expr (Expr → Bool) (λ f other. same_form f (out-Expr other)) e other

abbrev pub is_number : ℕ → Expr-F Expr → Bool
is_number value (Expr-F.Const c) = c.value == value
is_number value _ = false

abbrev pub is_equality : Operator → Bool
is_equality operator.Equal = true
is_equality _ = false

-- the expression is compared with 0
abbrev pub is_zero_test : Expr → Expr-F Expr → Bool
is_zero_test e (Expr-F.Binary a op b) = is_equality op && (is_number 0 (out-Expr b) && same a e)
is_zero_test e _ = false

abbrev pub is_divisor : Expr-F Expr → Bool
is_divisor (Expr-F.Const c) = nat_lt 0 c.value
is_divisor (Expr-F.Choice c a b) = is_zero_test b (out-Expr c) && is_number 1 (out-Expr a)
is_divisor _ = false

abbrev pub is_division : Operator → Bool
is_division operator.Divide = true
is_division operator.Remainder = true
is_division _ = false

abbrev pub divides_safely : Expr-F Expr → Bool
divides_safely (Expr-F.Binary a op b) = not (is_division op) || is_divisor (out-Expr b)
divides_safely _ = true

abbrev pub stmt_divides_safely : Stmt → Bool
stmt_divides_safely (stmt.Store name value) = holds_inside divides_safely value
stmt_divides_safely (stmt.StoreIf condition name address value) =
    holds_inside divides_safely condition && (holds_inside divides_safely address && holds_inside divides_safely value)

abbrev pub are_divided_safely : Module → Bool
are_divided_safely m = list_all (λ (a : Assign). holds_inside divides_safely a.value) m.assigns && list_all stmt_divides_safely (stmts_of m)

-- 7: a memory has 2, 4, 8, .. words, an address in it is as wide as these need, and there are no more than 1,048,576 words in all

-- the least width, of so many from this one on, in which each of so many addresses has a number
abbrev pub width_from : ℕ → ℕ → ℕ → Option ℕ
width_from zero width count = None
width_from (suc n) width count = if count == 2 ^ width then Some width else width_from n (width + 1) count

-- how wide an address of a memory is; none where its words are no power of two
abbrev pub address_width : ℕ → Option ℕ
address_width last = width_from 20 1 (last + 1)

abbrev pub is_address : Option ℕ → Option ℕ → Bool
is_address (Some wanted) (Some width) = wanted == width
is_address _ _ = false

-- the expression is as wide as the addresses of the memory of this name
abbrev pub addresses : (List ℕ → Option Sort) → (List ℕ → ℕ) → List ℕ → Expr → Bool
addresses sort width name e = is_address (address_width (last_address (sort name))) (expr_width width e)

abbrev pub address_fits : (List ℕ → Option Sort) → (List ℕ → ℕ) → Expr-F Expr → Bool
address_fits sort width (Expr-F.Item name e) = addresses sort width name e
address_fits sort width _ = true

abbrev pub all_address : (List ℕ → Option Sort) → (List ℕ → ℕ) → Expr → Bool
all_address sort width e = holds_inside (address_fits sort width) e

abbrev pub stmt_addresses : (List ℕ → Option Sort) → (List ℕ → ℕ) → Stmt → Bool
stmt_addresses sort width (stmt.Store name value) = all_address sort width value
stmt_addresses sort width (stmt.StoreIf condition name address value) =
    addresses sort width name address && (all_address sort width condition && (all_address sort width address && all_address sort width value))

abbrev pub decl_words : Decl → ℕ
decl_words (decl.Wire range name) = 0
decl_words (decl.Reg range name start) = 0
decl_words (decl.Memory range name last) = last + 1

abbrev pub decl_is_whole : Decl → Bool
decl_is_whole (decl.Wire range name) = true
decl_is_whole (decl.Reg range name start) = true
decl_is_whole (decl.Memory range name last) = is_some (address_width last)

abbrev pub are_addressed : (List ℕ → Option Sort) → (List ℕ → ℕ) → Module → Bool
are_addressed sort width m =
    (list_all decl_is_whole m.decls && nat_le (sum_by decl_words m.decls) 1048576)
    && (list_all (λ (a : Assign). all_address sort width a.value) m.assigns && list_all (stmt_addresses sort width) (stmts_of m))

-- the number of the first test that does not hold, counted from this one
abbrev pub first_false : ℕ → List Bool → Option ℕ
first_false n [] = None
first_false n (holds ∷ more) = if holds then first_false (n + 1) more else Some n

-- the first of the rules from the third on that a module of names that are narrow breaks
abbrev pub last_broken : Module → Option ℕ
last_broken m =
    first_false 3 (are_fitting (sort_of m) (width_of m) m ∷ are_assigned_once (sort_of m) m ∷ are_kept_once (sort_of m) m ∷ are_divided_safely m ∷ are_addressed (sort_of m) (width_of m) m ∷ [])

-- the first of the seven rules that a module breaks
abbrev pub first_broken : Module → Option ℕ
first_broken m =
    first_false 1
    (are_named m ∷ are_used (sort_of m) m ∷ (are_narrow m && are_fitting (sort_of m) (width_of m) m) ∷ are_assigned_once (sort_of m) m ∷ are_kept_once (sort_of m) m ∷ are_divided_safely m ∷ are_addressed (sort_of m) (width_of m) m ∷ [])
