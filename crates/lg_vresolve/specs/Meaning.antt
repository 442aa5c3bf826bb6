-- The number of an expression, where each name has a number.
-- Source: IEEE 1364-2005, 5.1 (operators), 5.2 (operands), 5.4 (widths of expressions).
use Rattle.std.specs.Prelude.{ℕ, ◌+◌, ◌-◌, ◌*◌, ◌/◌, ◌%◌, ◌^◌, ◌==◌, nat_lt, List, [], fold, Option, option_and_then, unwrap_or, slice_get, slice_index_or, if◌then◌else◌, bit_and, bit_or, bit_xor}
use Rattle.std.specs.Int.{bit_at}
use Rattle.lg_vtree.specs.declared.expr.Operator.{Operator}
use Rattle.lg_vtree.specs.declared.expr.Operator.TheVariants as operator
use Rattle.lg_vtree.specs.declared.expr.Expr.{Expr, fold-Expr}
use Rattle.lg_vtree.specs.declared.expr.Expr.TheOpen.{Expr-F}
use Rattle.lg_vtree.specs.declared.module.Module.{Module}
use Rattle.lg_vrules.specs.Things.{width_of, names_of, is_memory}
use Rattle.lg_vrules.specs.Rules.{operator_width}
use Rattle.lg_vrules.specs.Indexes.{index_from}
use Rattle.lg_vmachine.specs.Kept.{Kept}
use Rattle.lg_vmachine.specs.Terms.{number_of_test}

-- a number for each name
abbrev pub Valuation : Type 0
Valuation = List ℕ → ℕ

-- the number of an operation between numbers of this width
abbrev pub operator_value : Operator → ℕ → ℕ → ℕ → ℕ
operator_value operator.And width a b = bit_and a b
operator_value operator.Or width a b = bit_or a b
operator_value operator.Xor width a b = bit_xor a b
operator_value operator.Add width a b = (a + b) % 2 ^ width
operator_value operator.Subtract width a b = (a + 2 ^ width - b) % 2 ^ width
operator_value operator.Multiply width a b = (a * b) % 2 ^ width
operator_value operator.Divide width a b = a / b
operator_value operator.Remainder width a b = a % b
operator_value operator.Equal width a b = number_of_test (a == b)
operator_value operator.Less width a b = number_of_test (nat_lt a b)
operator_value operator.ShiftLeft width a b = (a * 2 ^ b) % 2 ^ width
operator_value operator.ShiftRight width a b = a / 2 ^ b

-- two words in braces, the first above the second
abbrev pub joined : ℕ × ℕ → ℕ × ℕ → ℕ × ℕ
joined high low = (high.0 + low.0, high.1 * 2 ^ low.0 + low.1)

-- the words of a memory: those at its index among the memories
abbrev pub memory_words : Module → Kept → List ℕ → List ℕ
memory_words m kept name = unwrap_or (option_and_then (slice_get kept.memories) (index_from 0 (names_of is_memory m) name)) []

-- the width and the number of an expression from those of its parts
abbrev pub form_number : (List ℕ → ℕ) → (List ℕ → List ℕ) → Valuation → Expr-F (ℕ × ℕ) → ℕ × ℕ
form_number width words value (Expr-F.Const c) = (c.width, c.value)
form_number width words value (Expr-F.Whole name) = (width name, value name)
form_number width words value (Expr-F.Bit name index) = (1, bit_at (value name) index)
form_number width words value (Expr-F.Part name high low) = (high + 1 - low, (value name / 2 ^ low) % 2 ^ (high + 1 - low))
form_number width words value (Expr-F.Item name e) = (width name, slice_index_or (words name) e.1 0)
form_number width words value (Expr-F.Join a b more) = fold joined (joined a b) more
form_number width words value (Expr-F.Not e) = (e.0, 2 ^ e.0 - 1 - e.1)
form_number width words value (Expr-F.Binary a op b) = (operator_width op a.0, operator_value op a.0 a.1 b.1)
form_number width words value (Expr-F.Choice c a b) = (a.0, if c.1 == 0 then b.1 else a.1)

-- the number of an expression; what registers hold is in the valuation, what memories hold is in their words
abbrev pub number_of : Module → Kept → Valuation → Expr → ℕ
number_of m kept value e = (fold-Expr (ℕ × ℕ) (form_number (width_of m) (memory_words m kept) value) e).1
