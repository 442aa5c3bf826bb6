-- Reading tokens from the left: a tree and the tokens after it, where one stands there. No contract of the crate's surface speaks of this.
use Rattle.std.specs.Prelude.{◌≡◌, ℕ, zero, suc, ◌==◌, nat_le, Bool, false, ◌||◌, not, Result, Ok, Err, List, [], ◌∷◌, length, Option, Some, None, option_and_then, codes, if◌then◌else◌}
use Rattle.std.specs.Str.{bytes_eq}
use Rattle.lg_vtree.specs.declared.module.Direction.{Direction}
use Rattle.lg_vtree.specs.declared.module.Direction.TheVariants.{Input, Output}
use Rattle.lg_vtree.specs.declared.module.Port.{Port}
use Rattle.lg_vtree.specs.declared.module.Decl.{Decl}
use Rattle.lg_vtree.specs.declared.module.Decl.TheVariants as decl
use Rattle.lg_vtree.specs.declared.module.Fill.{Fill}
use Rattle.lg_vtree.specs.declared.module.Word.{Word}
use Rattle.lg_vtree.specs.declared.module.Init.{Init}
use Rattle.lg_vtree.specs.declared.module.Assign.{Assign}
use Rattle.lg_vtree.specs.declared.module.EdgeKind.{EdgeKind}
use Rattle.lg_vtree.specs.declared.module.EdgeKind.TheVariants.{Rising, Falling}
use Rattle.lg_vtree.specs.declared.module.Stmt.{Stmt}
use Rattle.lg_vtree.specs.declared.module.Stmt.TheVariants as stmt
use Rattle.lg_vtree.specs.declared.module.Edge.{Edge}
use Rattle.lg_vtree.specs.declared.module.Module.{Module}
use Rattle.lg_vread.specs.declared.fault.ReadFault.{ReadFault}
use Rattle.lg_vread.specs.declared.fault.ReadFault.TheVariants.{NotSubset, Memory}
use Rattle.lg_vtree.specs.declared.expr.Constant.{Constant}
use Rattle.lg_vtree.specs.declared.expr.Operator.{Operator}
use Rattle.lg_vtree.specs.declared.expr.Operator.TheVariants as operator
use Rattle.lg_vtree.specs.declared.expr.Expr.{Expr}
use Rattle.lg_vtree.specs.declared.expr.Expr.TheVariants as expr
use Rattle.lg_vtree.specs.Printed.{operator_text}
use Rattle.lg_vtree.specs.Grammar.{Token, Fixed, Named, Number, Sized}

-- goes on with what is there
infixl 10 ◌>>=◌
abbrev pub ◌>>=◌ : {A B : Type 0} → Option A → (A → Option B) → Option B
o >>= f = option_and_then f o

-- the first token is this reserved word or sign
abbrev pub is_at : List ℕ → List Token → Bool
is_at text (Fixed word ∷ ts) = bytes_eq word text
is_at text _ = false

-- the tokens after the first
abbrev pub tail : List Token → List Token
tail [] = []
tail (t ∷ ts) = ts

-- the tokens after a reserved word or a sign
abbrev pub after : List ℕ → List Token → Option (List Token)
after text ts = if is_at text ts then Some (tail ts) else None

abbrev pub name_at : List Token → Option (List ℕ × List Token)
name_at (Named name ∷ ts) = Some (name, ts)
name_at _ = None

abbrev pub number_at : List Token → Option (ℕ × List Token)
number_at (Number number ∷ ts) = Some (number, ts)
number_at _ = None

abbrev pub constant_at : List Token → Option (Constant × List Token)
constant_at (Sized constant ∷ ts) = Some (constant, ts)
constant_at _ = None

-- the first of these operators that is spelled so
abbrev pub operator_of : List Operator → List ℕ → Option Operator
operator_of [] word = None
operator_of (op ∷ more) word = if bytes_eq word (operator_text op) then Some op else operator_of more word

abbrev pub operators : List Operator
operators =
    operator.And ∷ operator.Or ∷ operator.Xor ∷ operator.Add ∷ operator.Subtract ∷ operator.Multiply ∷ operator.Divide ∷ operator.Remainder ∷ operator.Equal ∷ operator.Less ∷ operator.ShiftLeft ∷ operator.ShiftRight ∷ []

unfoldable pub operator_at : List Token → Option (Operator × List Token)
operator_at (Fixed word ∷ ts) = operator_of operators word >>= λ op. Some (op, ts)
operator_at _ = None

-- things one after the other, as long as the tokens go on, fewer than a count
unfoldable pub many_at : {A : Type 0} → (List Token → Bool) → (List Token → Option (A × List Token)) → ℕ → List Token → Option (List A × List Token)
many_at goes one zero ts = None
many_at goes one (suc n) ts = if goes ts then (do
  first ← one ts
  others ← many_at goes one n first.1
  Some (first.0 ∷ others.0, others.1)) else Some ([], ts)

-- things one after the other, as long as the tokens go on
abbrev pub all_at : {A : Type 0} → (List Token → Bool) → (List Token → Option (A × List Token)) → List Token → Option (List A × List Token)
all_at goes one ts = many_at goes one (suc (length ts)) ts

-- an expression, and a sign behind it
abbrev pub before_at : (List Token → Option (Expr × List Token)) → List ℕ → List Token → Option (Expr × List Token)
before_at inner sign ts = do
  e ← inner ts
  end ← after sign e.1
  Some (e.0, end)

-- after `(~`
unfoldable pub not_at : (List Token → Option (Expr × List Token)) → List Token → Option (Expr × List Token)
not_at inner ts = do
  e ← inner ts
  end ← after (codes ")") e.1
  Some (expr.Not e.0, end)

-- after `(` and an expression
unfoldable pub binary_at : (List Token → Option (Expr × List Token)) → Expr → List Token → Option (Expr × List Token)
binary_at inner left ts = do
  op ← operator_at ts
  right ← inner op.1
  end ← after (codes ")") right.1
  Some (expr.Binary left op.0 right.0, end)

-- after `(`, an expression and `?`
unfoldable pub choice_at : (List Token → Option (Expr × List Token)) → Expr → List Token → Option (Expr × List Token)
choice_at inner condition ts = do
  first ← inner ts
  colon ← after (codes ":") first.1
  second ← inner colon
  end ← after (codes ")") second.1
  Some (expr.Choice condition first.0 second.0, end)

-- after `(`, no `~`
unfoldable pub operation_at : (List Token → Option (Expr × List Token)) → List Token → Option (Expr × List Token)
operation_at inner ts =
    inner ts >>= λ first. if is_at (codes "?") first.1 then choice_at inner first.0 (tail first.1) else binary_at inner first.0 first.1

-- an expression after a comma
unfoldable pub other_at : (List Token → Option (Expr × List Token)) → List Token → Option (Expr × List Token)
other_at inner ts = after (codes ",") ts >>= inner

-- after `{`
unfoldable pub join_at : (List Token → Option (Expr × List Token)) → List Token → Option (Expr × List Token)
join_at inner ts = do
  first ← inner ts
  second ← other_at inner first.1
  more ← all_at (is_at (codes ",")) (other_at inner) second.1
  end ← after (codes "}") more.1
  Some (expr.Join first.0 second.0 more.0, end)

-- after a name, `[` and a number
unfoldable pub bits_at : List ℕ → ℕ → List Token → Option (Expr × List Token)
bits_at name number ts = if is_at (codes ":") ts then (do
  low ← number_at (tail ts)
  end ← after (codes "]") low.1
  Some (expr.Part name number low.0, end)) else (do
    end ← after (codes "]") ts
    Some (expr.Bit name number, end))

-- after a name and `[`, no number
unfoldable pub item_at : (List Token → Option (Expr × List Token)) → List ℕ → List Token → Option (Expr × List Token)
item_at inner name ts = do
  address ← inner ts
  end ← after (codes "]") address.1
  Some (expr.Item name address.0, end)

-- after a name and `[`
unfoldable pub select_at : (List Token → Option (Expr × List Token)) → List ℕ → List Token → Option (Expr × List Token)
select_at inner name (Number number ∷ ts) = bits_at name number ts
select_at inner name ts = item_at inner name ts

-- an expression that begins with a name
unfoldable pub named_at : (List Token → Option (Expr × List Token)) → List Token → Option (Expr × List Token)
named_at inner ts =
    name_at ts >>= λ name. if is_at (codes "[") name.1 then select_at inner name.0 (tail name.1) else Some (expr.Whole name.0, name.1)

-- an expression that does not begin with a sign
unfoldable pub plain_at : (List Token → Option (Expr × List Token)) → List Token → Option (Expr × List Token)
plain_at inner (Sized constant ∷ ts) = Some (expr.Const constant, ts)
plain_at inner ts = named_at inner ts

-- after `(`
unfoldable pub paren_at : (List Token → Option (Expr × List Token)) → List Token → Option (Expr × List Token)
paren_at inner ts = if is_at (codes "~") ts then not_at inner (tail ts) else operation_at inner ts

-- an expression of which the parts are read so
unfoldable pub form_at : (List Token → Option (Expr × List Token)) → List Token → Option (Expr × List Token)
form_at inner ts =
    if is_at (codes "(") ts then paren_at inner (tail ts) else (if is_at (codes "{") ts then join_at inner (tail ts) else plain_at inner ts)

-- an expression of at most a depth
unfoldable pub expr_at : ℕ → List Token → Option (Expr × List Token)
expr_at zero ts = None
expr_at (suc n) ts = form_at (expr_at n) ts

-- the tokens after a number that is this one
unfoldable pub after_number : ℕ → List Token → Option (List Token)
after_number n ts = number_at ts >>= λ x. if x.0 == n then Some x.1 else None

-- the tokens after a name that is this one
unfoldable pub after_name : List ℕ → List Token → Option (List Token)
after_name name ts = name_at ts >>= λ x. if bytes_eq x.0 name then Some x.1 else None

-- a range after its `[`
unfoldable pub high_at : List Token → Option (Option ℕ × List Token)
high_at ts = do
  high ← number_at ts
  colon ← after (codes ":") high.1
  low ← after_number 0 colon
  end ← after (codes "]") low
  if nat_le 1 high.0 then Some (Some high.0, end) else None

unfoldable pub range_at : List Token → Option (Option ℕ × List Token)
range_at ts = if is_at (codes "[") ts then high_at (tail ts) else Some (None, ts)

unfoldable pub direction_at : List Token → Option (Direction × List Token)
direction_at ts =
    if is_at (codes "input") ts then Some (Input, tail ts) else (after (codes "output") ts >>= λ rest. Some (Output, rest))

unfoldable pub port_at : List Token → Option (Port × List Token)
port_at ts = do
  direction ← direction_at ts
  wire ← after (codes "wire") direction.1
  range ← range_at wire
  name ← name_at range.1
  Some (record { direction = direction.0; range = range.0; name = name.0 }, name.1)

-- a port after a comma
unfoldable pub other_port_at : List Token → Option (Port × List Token)
other_port_at ts = after (codes ",") ts >>= port_at

-- all ports up to a `)`
unfoldable pub ports_at : List Token → Option (List Port × List Token)
ports_at ts = if is_at (codes ")") ts then Some ([], ts) else (do
  first ← port_at ts
  more ← all_at (is_at (codes ",")) other_port_at first.1
  Some (first.0 ∷ more.0, more.1))

-- after `wire`
unfoldable pub wire_at : List Token → Option (Decl × List Token)
wire_at ts = do
  range ← range_at ts
  name ← name_at range.1
  end ← after (codes ";") name.1
  Some (decl.Wire range.0 name.0, end)

-- after `reg`, a range, a name and `=`
unfoldable pub start_at : Option ℕ → List ℕ → List Token → Option (Decl × List Token)
start_at range name ts = do
  start ← constant_at ts
  end ← after (codes ";") start.1
  Some (decl.Reg range name start.0, end)

-- after `reg`, a range and a name, no `=`
unfoldable pub memory_at : Option ℕ → List ℕ → List Token → Option (Decl × List Token)
memory_at range name ts = do
  bracket ← after (codes "[") ts
  low ← after_number 0 bracket
  colon ← after (codes ":") low
  last ← number_at colon
  close ← after (codes "]") last.1
  end ← after (codes ";") close
  Some (decl.Memory range name last.0, end)

-- after `reg`
unfoldable pub reg_at : List Token → Option (Decl × List Token)
reg_at ts =
    range_at ts >>= λ range. name_at range.1 >>= λ name. if is_at (codes "=") name.1 then start_at range.0 name.0 (tail name.1) else memory_at range.0 name.0 name.1

unfoldable pub decl_at : List Token → Option (Decl × List Token)
decl_at ts = if is_at (codes "wire") ts then wire_at (tail ts) else (after (codes "reg") ts >>= reg_at)

-- a declaration comes
abbrev pub declares : List Token → Bool
declares ts = is_at (codes "wire") ts || is_at (codes "reg") ts

-- after `for (k = 0;`
unfoldable pub loop_start_at : List Token → Option (List Token)
loop_start_at ts = do
  word ← after (codes "for") ts
  paren ← after (codes "(") word
  k ← after (codes "k") paren
  equals ← after (codes "=") k
  start ← after_number 0 equals
  after (codes ";") start

-- `k < count;`
unfoldable pub loop_test_at : List Token → Option (ℕ × List Token)
loop_test_at ts = do
  k ← after (codes "k") ts
  less ← after (codes "<") k
  count ← number_at less
  end ← after (codes ";") count.1
  Some (count.0, end)

-- after `k = k + 1)`
unfoldable pub loop_step_at : List Token → Option (List Token)
loop_step_at ts = do
  k ← after (codes "k") ts
  equals ← after (codes "=") k
  again ← after (codes "k") equals
  plus ← after (codes "+") again
  step ← after_number 1 plus
  after (codes ")") step

-- `name[k]`
unfoldable pub filled_at : List Token → Option (List ℕ × List Token)
filled_at ts = do
  name ← name_at ts
  bracket ← after (codes "[") name.1
  k ← after (codes "k") bracket
  close ← after (codes "]") k
  Some (name.0, close)

-- `= value;`
unfoldable pub value_at : List Token → Option (Constant × List Token)
value_at ts = do
  equals ← after (codes "=") ts
  value ← constant_at equals
  end ← after (codes ";") value.1
  Some (value.0, end)

unfoldable pub fill_at : List Token → Option (Fill × List Token)
fill_at ts = do
  start ← loop_start_at ts
  count ← loop_test_at start
  step ← loop_step_at count.1
  name ← filled_at step
  value ← value_at name.1
  Some (record { name = name.0; count = count.0; value = value.0 }, value.1)

unfoldable pub word_at : List Token → Option (Word × List Token)
word_at ts = do
  name ← name_at ts
  bracket ← after (codes "[") name.1
  address ← number_at bracket
  close ← after (codes "]") address.1
  value ← value_at close
  Some (record { name = name.0; address = address.0; value = value.0 }, value.1)

-- the end of a block does not come
abbrev pub goes_on : List Token → Bool
goes_on ts = not (is_at (codes "end") ts)

-- after `integer k; initial begin`
unfoldable pub init_start_at : List Token → Option (List Token)
init_start_at ts = do
  k ← after (codes "k") ts
  end ← after (codes ";") k
  initial ← after (codes "initial") end
  after (codes "begin") initial

-- after `integer`
unfoldable pub init_at : List Token → Option (Init × List Token)
init_at ts = do
  start ← init_start_at ts
  fills ← all_at (is_at (codes "for")) fill_at start
  words ← all_at goes_on word_at fills.1
  end ← after (codes "end") words.1
  Some (record { fills = fills.0; words = words.0 }, end)

-- an init, where one comes
unfoldable pub maybe_init_at : List Token → Option (Option Init × List Token)
maybe_init_at ts = if is_at (codes "integer") ts then (init_at (tail ts) >>= λ i. Some (Some i.0, i.1)) else Some (None, ts)

unfoldable pub assign_at : ℕ → List Token → Option (Assign × List Token)
assign_at most ts = do
  start ← after (codes "assign") ts
  name ← name_at start
  equals ← after (codes "=") name.1
  value ← expr_at most equals
  end ← after (codes ";") value.1
  Some (record { name = name.0; value = value.0 }, end)

-- `<= value;`
unfoldable pub stored_at : ℕ → List Token → Option (Expr × List Token)
stored_at most ts = do
  arrow ← after (codes "<=") ts
  value ← expr_at most arrow
  end ← after (codes ";") value.1
  Some (value.0, end)

unfoldable pub store_at : ℕ → List Token → Option (Stmt × List Token)
store_at most ts = do
  name ← name_at ts
  value ← stored_at most name.1
  Some (stmt.Store name.0 value.0, value.1)

-- `(condition)`
unfoldable pub condition_at : ℕ → List Token → Option (Expr × List Token)
condition_at most ts = do
  paren ← after (codes "(") ts
  condition ← expr_at most paren
  end ← after (codes ")") condition.1
  Some (condition.0, end)

-- `name[address] <= value;`
unfoldable pub target_at : ℕ → List Token → Option ((List ℕ × Expr × Expr) × List Token)
target_at most ts = do
  name ← name_at ts
  bracket ← after (codes "[") name.1
  address ← expr_at most bracket
  close ← after (codes "]") address.1
  value ← stored_at most close
  Some ((name.0, address.0, value.0), value.1)

-- after `if`
unfoldable pub store_if_at : ℕ → List Token → Option (Stmt × List Token)
store_if_at most ts = do
  condition ← condition_at most ts
  target ← target_at most condition.1
  Some (stmt.StoreIf condition.0 target.0.0 target.0.1 target.0.2, target.1)

unfoldable pub stmt_at : ℕ → List Token → Option (Stmt × List Token)
stmt_at most ts = if is_at (codes "if") ts then store_if_at most (tail ts) else store_at most ts

unfoldable pub edge_kind_at : List Token → Option (EdgeKind × List Token)
edge_kind_at ts =
    if is_at (codes "posedge") ts then Some (Rising, tail ts) else (after (codes "negedge") ts >>= λ rest. Some (Falling, rest))

-- `@(posedge clk) begin`, or with `negedge`
unfoldable pub edge_start_at : List Token → Option (EdgeKind × List Token)
edge_start_at ts = do
  sign ← after (codes "@") ts
  paren ← after (codes "(") sign
  kind ← edge_kind_at paren
  clock ← after_name (codes "clk") kind.1
  close ← after (codes ")") clock
  begin ← after (codes "begin") close
  Some (kind.0, begin)

-- after `always`
unfoldable pub edge_at : ℕ → List Token → Option (Edge × List Token)
edge_at most ts = do
  kind ← edge_start_at ts
  stmts ← all_at goes_on (stmt_at most) kind.1
  end ← after (codes "end") stmts.1
  Some (record { kind = kind.0; stmts = stmts.0 }, end)

-- an edge, where one comes
unfoldable pub maybe_edge_at : ℕ → List Token → Option (Option Edge × List Token)
maybe_edge_at most ts = if is_at (codes "always") ts then (edge_at most (tail ts) >>= λ e. Some (Some e.0, e.1)) else Some (None, ts)

-- a module's name and its ports
unfoldable pub head_at : List Token → Option ((List ℕ × List Port) × List Token)
head_at ts = do
  start ← after (codes "module") ts
  name ← name_at start
  bracket ← after (codes "(") name.1
  ports ← ports_at bracket
  close ← after (codes ")") ports.1
  end ← after (codes ";") close
  Some ((name.0, ports.0), end)

-- the end of a module, with nothing after it
unfoldable pub ends_at : List Token → Option (List Token)
ends_at ts = after (codes "endmodule") ts >>= λ rest. if length rest == 0 then Some rest else None

-- the module of all tokens, with expressions of at most a depth
unfoldable pub module_at : ℕ → List Token → Option Module
module_at most ts = do
  head ← head_at ts
  decls ← all_at declares decl_at head.1
  init ← maybe_init_at decls.1
  assigns ← all_at (is_at (codes "assign")) (assign_at most) init.1
  edge ← maybe_edge_at most assigns.1
  end ← ends_at edge.1
  Some (record { name = head.0.0; ports = head.0.1; decls = decls.0; init = init.0; assigns = assigns.0; edge = edge.0 })

-- which fault a function may give where reading gives this
abbrev pub Fails : {Y : Type 0} → ReadFault → Option Y → Type 0
Fails Memory read = Unit {0}
Fails NotSubset read = read ≡ None

-- what a function returned, and the tokens that it left, are what reading gives, unless memory ran out
abbrev pub Gives : {X : Type 0} → Result X ReadFault → List Token → Option (X × List Token) → Type 0
Gives (Ok x) new read = read ≡ Some (x, new)
Gives (Err fault) new read = Fails fault read

-- the same of a function that returns nothing
abbrev pub Goes : {X : Type 0} → Result X ReadFault → List Token → Option (List Token) → Type 0
Goes (Ok x) new read = read ≡ Some new
Goes (Err fault) new read = Fails fault read

-- the same of a function that returns something where it comes, and else leaves all
abbrev pub Tries : {X : Type 0} → Option X → List Token → List Token → Option (X × List Token) → Type 0
Tries None old new read = (read ≡ None) × (new ≡ old)
Tries (Some x) old new read = read ≡ Some (x, new)

-- the same of a function that returns what all tokens give
abbrev pub Reads : {X : Type 0} → Result X ReadFault → Option X → Type 0
Reads (Ok x) read = read ≡ Some x
Reads (Err fault) read = Fails fault read
