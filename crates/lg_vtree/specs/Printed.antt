-- The printed layout of a module: one line a port, a declaration, an assign and a statement.
-- Source: the subset of IEEE 1364-2005 that is emitted (12.1 modules, 6.1 continuous assignments, 9.2 assignments in procedures, 5.1 operators).
use Rattle.std.specs.Prelude.{ℕ, List, [], ◌∷◌, ◌++◌, Option, Some, None, codes}
use Rattle.std.specs.List.{flat_map}
use Rattle.std.specs.Fmt.{decimal}
use Rattle.lg_vtree.specs.declared.module.Direction.{Direction}
use Rattle.lg_vtree.specs.declared.module.Direction.TheVariants.{Input, Output}
use Rattle.lg_vtree.specs.declared.module.Port.{Port}
use Rattle.lg_vtree.specs.declared.module.Decl.{Decl}
use Rattle.lg_vtree.specs.declared.module.Decl.TheVariants as decl
use Rattle.lg_vtree.specs.declared.module.Fill.{Fill}
use Rattle.lg_vtree.specs.declared.module.Word.{Word}
use Rattle.lg_vtree.specs.declared.module.Init.{Init}
use Rattle.lg_vtree.specs.declared.module.Assign.{Assign}
use Rattle.lg_vtree.specs.declared.module.EdgeKind.{EdgeKind}
use Rattle.lg_vtree.specs.declared.module.EdgeKind.TheVariants.{Rising, Falling}
use Rattle.lg_vtree.specs.declared.module.Stmt.{Stmt}
use Rattle.lg_vtree.specs.declared.module.Stmt.TheVariants as stmt
use Rattle.lg_vtree.specs.declared.module.Edge.{Edge}
use Rattle.lg_vtree.specs.declared.module.Module.{Module}
use Rattle.lg_vtree.specs.declared.expr.Constant.{Constant}
use Rattle.lg_vtree.specs.declared.expr.Operator.{Operator}
use Rattle.lg_vtree.specs.declared.expr.Operator.TheVariants as operator
use Rattle.lg_vtree.specs.declared.expr.Expr.{Expr, fold-Expr}
use Rattle.lg_vtree.specs.declared.expr.Expr.TheOpen.{Expr-F}

-- `[h:0] ` before a name of several bits, and nothing before one of a single bit
abbrev pub range_text : Option ℕ → List ℕ
range_text None = []
range_text (Some high) = codes "[" ++ decimal high ++ codes ":0] "

-- `8'd5`
abbrev pub constant_text : Constant → List ℕ
constant_text c = decimal c.width ++ codes "'d" ++ decimal c.value

abbrev pub operator_text : Operator → List ℕ
operator_text operator.And = codes "&"
operator_text operator.Or = codes "|"
operator_text operator.Xor = codes "^"
operator_text operator.Add = codes "+"
operator_text operator.Subtract = codes "-"
operator_text operator.Multiply = codes "*"
operator_text operator.Divide = codes "/"
operator_text operator.Remainder = codes "%"
operator_text operator.Equal = codes "=="
operator_text operator.Less = codes "<"
operator_text operator.ShiftLeft = codes "<<"
operator_text operator.ShiftRight = codes ">>"

-- texts, each with `, ` before it
abbrev pub after_commas : List (List ℕ) → List ℕ
after_commas texts = flat_map (λ text. codes ", " ++ text) texts

-- an expression from the texts of its parts
abbrev pub form_text : Expr-F (List ℕ) → List ℕ
form_text (Expr-F.Const c) = constant_text c
form_text (Expr-F.Whole name) = name
form_text (Expr-F.Bit name index) = name ++ codes "[" ++ decimal index ++ codes "]"
form_text (Expr-F.Part name high low) = name ++ codes "[" ++ decimal high ++ codes ":" ++ decimal low ++ codes "]"
form_text (Expr-F.Item name e) = name ++ codes "[" ++ e ++ codes "]"
form_text (Expr-F.Join a b more) = codes "{" ++ a ++ codes ", " ++ b ++ after_commas more ++ codes "}"
form_text (Expr-F.Not e) = codes "(~" ++ e ++ codes ")"
form_text (Expr-F.Binary a op b) = codes "(" ++ a ++ codes " " ++ operator_text op ++ codes " " ++ b ++ codes ")"
form_text (Expr-F.Choice c a b) = codes "(" ++ c ++ codes " ? " ++ a ++ codes " : " ++ b ++ codes ")"

abbrev pub expr_text : Expr → List ℕ
expr_text e = fold-Expr (List ℕ) form_text e

abbrev pub direction_text : Direction → List ℕ
direction_text Input = codes "input wire "
direction_text Output = codes "output wire "

abbrev pub port_text : Port → List ℕ
port_text p = codes "  " ++ direction_text p.direction ++ range_text p.range ++ p.name

-- the ports' lines, each ended by a comma but for the last
abbrev pub ports_text : List Port → List ℕ
ports_text [] = []
ports_text (p ∷ []) = port_text p ++ codes "\n"
ports_text (p ∷ q ∷ more) = port_text p ++ codes ",\n" ++ ports_text (q ∷ more)

abbrev pub decl_text : Decl → List ℕ
decl_text (decl.Wire range name) = codes "  wire " ++ range_text range ++ name ++ codes ";\n"
decl_text (decl.Reg range name start) = codes "  reg " ++ range_text range ++ name ++ codes " = " ++ constant_text start ++ codes ";\n"
decl_text (decl.Memory range name last) = codes "  reg " ++ range_text range ++ name ++ codes " [0:" ++ decimal last ++ codes "];\n"

-- the head of a loop over a memory's words
abbrev pub loop_text : ℕ → List ℕ
loop_text count = codes "    for (k = 0; k < " ++ decimal count ++ codes "; k = k + 1) "

-- the loop that fills a memory
unfoldable pub fill_text : Fill → List ℕ
fill_text f = loop_text f.count ++ f.name ++ codes "[k] = " ++ constant_text f.value ++ codes ";\n"

abbrev pub word_text : Word → List ℕ
word_text w = codes "    " ++ w.name ++ codes "[" ++ decimal w.address ++ codes "] = " ++ constant_text w.value ++ codes ";\n"

-- the fills and the words
abbrev pub starts_text : Init → List ℕ
starts_text i = flat_map fill_text i.fills ++ flat_map word_text i.words

abbrev pub init_text : Option Init → List ℕ
init_text None = []
init_text (Some i) = codes "  integer k;\n  initial begin\n" ++ starts_text i ++ codes "  end\n"

abbrev pub assign_text : Assign → List ℕ
assign_text a = codes "  assign " ++ a.name ++ codes " = " ++ expr_text a.value ++ codes ";\n"

-- the line that opens an edge
abbrev pub always_text : EdgeKind → List ℕ
always_text Rising = codes "  always @(posedge clk) begin\n"
always_text Falling = codes "  always @(negedge clk) begin\n"

abbrev pub stmt_text : Stmt → List ℕ
stmt_text (stmt.Store name value) = codes "    " ++ name ++ codes " <= " ++ expr_text value ++ codes ";\n"
stmt_text (stmt.StoreIf condition name address value) =
    codes "    if (" ++ expr_text condition ++ codes ") " ++ name ++ codes "[" ++ expr_text address ++ codes "] <= " ++ expr_text value ++ codes ";\n"

abbrev pub edge_text : Option Edge → List ℕ
edge_text None = []
edge_text (Some e) = always_text e.kind ++ flat_map stmt_text e.stmts ++ codes "  end\n"

-- a module's name and its ports
abbrev pub head_text : Module → List ℕ
head_text m = codes "module " ++ m.name ++ codes "(\n" ++ ports_text m.ports ++ codes ");\n"

-- the whole text of a module
abbrev pub module_text : Module → List ℕ
module_text m =
    head_text m ++ flat_map decl_text m.decls ++ init_text m.init ++ flat_map assign_text m.assigns ++ edge_text m.edge ++ codes "endmodule\n"
