-- The grammar of modules: which bytes are the text of which module. A module has many texts.
-- Source: IEEE 1364-2005 (3.2 white space, 3.5 numbers, 3.7 identifiers, 12.1 modules, 6.1 continuous assignments, 9.2 assignments in procedures, 5.1 operators), in a narrower form.
use Rattle.std.specs.Prelude.{◌≡◌, ℕ, ◌==◌, nat_le, Bool, true, false, ◌&&◌, ◌||◌, IsTrue, List, [], ◌∷◌, ◌++◌, map, Option, Some, None, codes}
use Rattle.std.specs.Fmt.{decimal}
use Rattle.std.specs.List.{flat_map, list_all, AllByRecursion}
use Rattle.lg_text.specs.NameByte.{is_name_byte}
use Rattle.lg_vtree.specs.declared.module.Direction.{Direction}
use Rattle.lg_vtree.specs.declared.module.Direction.TheVariants.{Input, Output}
use Rattle.lg_vtree.specs.declared.module.Port.{Port}
use Rattle.lg_vtree.specs.declared.module.Decl.{Decl}
use Rattle.lg_vtree.specs.declared.module.Decl.TheVariants as decl
use Rattle.lg_vtree.specs.declared.module.Fill.{Fill}
use Rattle.lg_vtree.specs.declared.module.Word.{Word}
use Rattle.lg_vtree.specs.declared.module.Init.{Init}
use Rattle.lg_vtree.specs.declared.module.Assign.{Assign}
use Rattle.lg_vtree.specs.declared.module.EdgeKind.{EdgeKind}
use Rattle.lg_vtree.specs.declared.module.EdgeKind.TheVariants.{Rising, Falling}
use Rattle.lg_vtree.specs.declared.module.Stmt.{Stmt}
use Rattle.lg_vtree.specs.declared.module.Stmt.TheVariants as stmt
use Rattle.lg_vtree.specs.declared.module.Edge.{Edge}
use Rattle.lg_vtree.specs.declared.module.Module.{Module}
use Rattle.lg_vtree.specs.declared.expr.Constant.{Constant}
use Rattle.lg_vtree.specs.declared.expr.Expr.{Expr, fold-Expr}
use Rattle.lg_vtree.specs.declared.expr.Expr.TheOpen.{Expr-F}
use Rattle.lg_vtree.specs.Token.{is_name, is_number}
use Rattle.lg_vtree.specs.Printed.{constant_text, operator_text}

-- a token: a reserved word or a sign, a name, a number, or a constant as `8'd5`
pub data Token : Type 0 where
  Fixed : (text : List ℕ) → Token
  Named : (name : List ℕ) → Token
  Number : (number : ℕ) → Token
  Sized : (constant : Constant) → Token

abbrev pub token_text : Token → List ℕ
token_text (Fixed text) = text
token_text (Named name) = name
token_text (Number number) = decimal number
token_text (Sized constant) = constant_text constant

-- names and numbers are those of the subset
abbrev pub is_token : Token → Bool
is_token (Fixed text) = true
is_token (Named name) = is_name name
is_token (Number number) = is_number number
is_token (Sized constant) = is_number constant.width && is_number constant.value

-- space, tab, carriage return, line feed
abbrev pub is_white : ℕ → Bool
is_white c = c == 32 || c == 9 || c == 13 || c == 10

-- the first byte is a letter, a digit or `_`
abbrev pub begins_word : List ℕ → Bool
begins_word [] = false
begins_word (c ∷ cs) = is_name_byte c

-- bytes begin with a token, which white space may stand before, and which does not run into another word
pub record Begins (token bytes rest : List ℕ) : Type 0 where
  pub white : List ℕ
  pub is_white : IsTrue (list_all is_white white)
  pub spelled : bytes ≡ white ++ (token ++ rest)
  pub apart : (begins_word token && begins_word rest) ≡ false

-- bytes are these tokens, in order, and white space
abbrev pub Spells : List (List ℕ) → List ℕ → Type 0
Spells [] bytes = IsTrue (list_all is_white bytes)
Spells (token ∷ more) bytes = (rest : List ℕ) × Begins token bytes rest × Spells more rest

-- `[h:0]`, and nothing for a single bit
abbrev pub range_tokens : Option ℕ → List Token
range_tokens None = []
range_tokens (Some high) = Fixed (codes "[") ∷ Number high ∷ Fixed (codes ":") ∷ Number 0 ∷ Fixed (codes "]") ∷ []

-- an expression from the tokens of its parts
abbrev pub form_tokens : Expr-F (List Token) → List Token
form_tokens (Expr-F.Const c) = Sized c ∷ []
form_tokens (Expr-F.Whole name) = Named name ∷ []
form_tokens (Expr-F.Bit name index) = Named name ∷ Fixed (codes "[") ∷ Number index ∷ Fixed (codes "]") ∷ []
form_tokens (Expr-F.Part name high low) =
    Named name ∷ Fixed (codes "[") ∷ Number high ∷ Fixed (codes ":") ∷ Number low ∷ Fixed (codes "]") ∷ []
form_tokens (Expr-F.Item name e) = Named name ∷ Fixed (codes "[") ∷ (e ++ Fixed (codes "]") ∷ [])
form_tokens (Expr-F.Join a b more) =
    Fixed (codes "{") ∷ (a ++ Fixed (codes ",") ∷ (b ++ (flat_map (λ e. Fixed (codes ",") ∷ e) more ++ Fixed (codes "}") ∷ [])))
form_tokens (Expr-F.Not e) = Fixed (codes "(") ∷ Fixed (codes "~") ∷ (e ++ Fixed (codes ")") ∷ [])
form_tokens (Expr-F.Binary a op b) = Fixed (codes "(") ∷ (a ++ Fixed (operator_text op) ∷ (b ++ Fixed (codes ")") ∷ []))
form_tokens (Expr-F.Choice c a b) =
    Fixed (codes "(") ∷ (c ++ Fixed (codes "?") ∷ (a ++ Fixed (codes ":") ∷ (b ++ Fixed (codes ")") ∷ [])))

unfoldable pub expr_tokens : Expr → List Token
expr_tokens e = fold-Expr (List Token) form_tokens e

abbrev pub direction_token : Direction → Token
direction_token Input = Fixed (codes "input")
direction_token Output = Fixed (codes "output")

abbrev pub port_tokens : Port → List Token
port_tokens p = direction_token p.direction ∷ Fixed (codes "wire") ∷ (range_tokens p.range ++ Named p.name ∷ [])

-- ports with commas between them
abbrev pub ports_tokens : List Port → List Token
ports_tokens [] = []
ports_tokens (p ∷ more) = port_tokens p ++ flat_map (λ q. Fixed (codes ",") ∷ port_tokens q) more

abbrev pub decl_tokens : Decl → List Token
decl_tokens (decl.Wire range name) = Fixed (codes "wire") ∷ (range_tokens range ++ Named name ∷ Fixed (codes ";") ∷ [])
decl_tokens (decl.Reg range name start) =
    Fixed (codes "reg") ∷ (range_tokens range ++ Named name ∷ Fixed (codes "=") ∷ Sized start ∷ Fixed (codes ";") ∷ [])
decl_tokens (decl.Memory range name last) =
    Fixed (codes "reg")
    ∷ (range_tokens range ++ Named name ∷ Fixed (codes "[") ∷ Number 0 ∷ Fixed (codes ":") ∷ Number last ∷ Fixed (codes "]") ∷ Fixed (codes ";") ∷ [])

-- `for (k = 0; k < count; k = k + 1)`
abbrev pub loop_tokens : ℕ → List Token
loop_tokens count =
    Fixed (codes "for") ∷ Fixed (codes "(") ∷ Fixed (codes "k") ∷ Fixed (codes "=") ∷ Number 0 ∷ Fixed (codes ";") ∷ Fixed (codes "k") ∷ Fixed (codes "<") ∷ Number count ∷ Fixed (codes ";")
    ∷ Fixed (codes "k") ∷ Fixed (codes "=") ∷ Fixed (codes "k") ∷ Fixed (codes "+") ∷ Number 1 ∷ Fixed (codes ")") ∷ []

abbrev pub fill_tokens : Fill → List Token
fill_tokens f =
    loop_tokens f.count ++ Named f.name ∷ Fixed (codes "[") ∷ Fixed (codes "k") ∷ Fixed (codes "]") ∷ Fixed (codes "=") ∷ Sized f.value ∷ Fixed (codes ";") ∷ []

abbrev pub word_tokens : Word → List Token
word_tokens w = Named w.name ∷ Fixed (codes "[") ∷ Number w.address ∷ Fixed (codes "]") ∷ Fixed (codes "=") ∷ Sized w.value ∷ Fixed (codes ";") ∷ []

abbrev pub init_tokens : Option Init → List Token
init_tokens None = []
init_tokens (Some i) =
    Fixed (codes "integer") ∷ Fixed (codes "k") ∷ Fixed (codes ";") ∷ Fixed (codes "initial") ∷ Fixed (codes "begin")
    ∷ (flat_map fill_tokens i.fills ++ (flat_map word_tokens i.words ++ Fixed (codes "end") ∷ []))

abbrev pub assign_tokens : Assign → List Token
assign_tokens a = Fixed (codes "assign") ∷ Named a.name ∷ Fixed (codes "=") ∷ (expr_tokens a.value ++ Fixed (codes ";") ∷ [])

abbrev pub edge_token : EdgeKind → Token
edge_token Rising = Fixed (codes "posedge")
edge_token Falling = Fixed (codes "negedge")

abbrev pub stmt_tokens : Stmt → List Token
stmt_tokens (stmt.Store name value) = Named name ∷ Fixed (codes "<=") ∷ (expr_tokens value ++ Fixed (codes ";") ∷ [])
stmt_tokens (stmt.StoreIf condition name address value) =
    Fixed (codes "if") ∷ Fixed (codes "(") ∷ (expr_tokens condition ++ Fixed (codes ")") ∷ Named name ∷ Fixed (codes "[")
    ∷ (expr_tokens address ++ Fixed (codes "]") ∷ Fixed (codes "<=") ∷ (expr_tokens value ++ Fixed (codes ";") ∷ [])))

abbrev pub edge_tokens : Option Edge → List Token
edge_tokens None = []
edge_tokens (Some e) =
    Fixed (codes "always") ∷ Fixed (codes "@") ∷ Fixed (codes "(") ∷ edge_token e.kind ∷ Named (codes "clk") ∷ Fixed (codes ")") ∷ Fixed (codes "begin")
    ∷ (flat_map stmt_tokens e.stmts ++ Fixed (codes "end") ∷ [])

-- the tokens of a whole module
abbrev pub module_tokens : Module → List Token
module_tokens m =
    Fixed (codes "module") ∷ Named m.name ∷ Fixed (codes "(")
    ∷ (ports_tokens m.ports ++ Fixed (codes ")") ∷ Fixed (codes ";")
    ∷ (flat_map decl_tokens m.decls ++ (init_tokens m.init ++ (flat_map assign_tokens m.assigns ++ (edge_tokens m.edge ++ Fixed (codes "endmodule") ∷ [])))))

abbrev pub decl_range : Decl → Option ℕ
decl_range (decl.Wire range name) = range
decl_range (decl.Reg range name start) = range
decl_range (decl.Memory range name last) = range

-- the high index of a range is at least 1
abbrev pub is_high : Option ℕ → Bool
is_high None = true
is_high (Some high) = nat_le 1 high

-- what the types of a tree keep: its names and numbers are those of the subset, and so are its ranges
pub record IsTree (m : Module) : Type 0 where
  pub tokens : IsTrue (list_all is_token (module_tokens m))
  pub ports : AllByRecursion (λ p. IsTrue (is_high p.range)) m.ports
  pub decls : AllByRecursion (λ d. IsTrue (is_high (decl_range d))) m.decls

-- bytes are a text of the module
pub record IsModuleText (bytes : List ℕ) (m : Module) : Type 0 where
  pub tree : IsTree m
  pub spelled : Spells (map token_text (module_tokens m)) bytes
