-- The numbers of expressions over indexes, as they are computed.
use Rattle.std.specs.Prelude.{ℕ, ◌+◌, ◌-◌, ◌*◌, ◌/◌, ◌%◌, ◌^◌, ◌==◌, nat_lt, min, Bool, true, false, List, [], Option, unwrap_or, fold, slice_index_or, if◌then◌else◌, bit_and, bit_or, bit_xor}
use Rattle.lg_vtree.specs.declared.expr.Operator.{Operator}
use Rattle.lg_vtree.specs.declared.expr.Operator.TheVariants as operator
use Rattle.lg_vtree.specs.declared.expr.Expr.{Expr, fold-Expr}
use Rattle.lg_vtree.specs.declared.expr.Expr.TheOpen.{Expr-F}
use Rattle.lg_vmachine.specs.declared.term.Term.{Term, fold-Term}
use Rattle.lg_vmachine.specs.declared.term.Term.TheVariants as term
use Rattle.lg_vmachine.specs.declared.term.Term.TheOpen.{Term-F}

-- 1 for yes and 0 for no
abbrev pub number_of_test : Bool → ℕ
number_of_test true = 1
number_of_test false = 0

-- an operation that is computed in 128 bits and then cut to a width
abbrev pub wide_operation : Operator → ℕ → ℕ → ℕ → ℕ
wide_operation operator.And width a b = bit_and a b
wide_operation operator.Or width a b = bit_or a b
wide_operation operator.Xor width a b = bit_xor a b
wide_operation operator.Add width a b = (a + b) % 2 ^ 128 % 2 ^ width
wide_operation operator.Subtract width a b = (a + 2 ^ 128 - b) % 2 ^ 128 % 2 ^ width
wide_operation operator.Multiply width a b = (a * b) % 2 ^ 128 % 2 ^ width
wide_operation operator.Divide width a b = a / b
wide_operation operator.Remainder width a b = a % b
wide_operation operator.Equal width a b = number_of_test (a == b)
wide_operation operator.Less width a b = number_of_test (nat_lt a b)
wide_operation operator.ShiftLeft width a b = (a * 2 ^ b) % 2 ^ 128 % 2 ^ width
wide_operation operator.ShiftRight width a b = a / 2 ^ b

abbrev pub form_term : List ℕ → List (List ℕ) → Term-F ℕ → ℕ
form_term numbers memories (Term-F.Const value) = value
form_term numbers memories (Term-F.Number index) = slice_index_or numbers index 0
form_term numbers memories (Term-F.Part index low width) = slice_index_or numbers index 0 / 2 ^ low % 2 ^ width
form_term numbers memories (Term-F.Item memory e) = slice_index_or (slice_index_or memories memory []) e 0
form_term numbers memories (Term-F.Join a width b) = ((a * 2 ^ width) % 2 ^ 128 + b) % 2 ^ 128
form_term numbers memories (Term-F.Not width e) = 2 ^ min width 128 - 1 - e
form_term numbers memories (Term-F.Binary width a op b) = wide_operation op width a b
form_term numbers memories (Term-F.Choice c a b) = if c == 0 then b else a

-- the number of a term over these numbers and memories
abbrev pub term_number : List ℕ → List (List ℕ) → Term → ℕ
term_number numbers memories t = fold-Term ℕ (form_term numbers memories) t
