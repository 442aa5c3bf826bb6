-- How deep the expressions of a module are.
use Rattle.std.specs.Prelude.{ℕ, ◌+◌, max, List, [], ◌∷◌, map, Option, Some, None}
use Rattle.lg_vtree.specs.declared.module.Stmt.{Stmt}
use Rattle.lg_vtree.specs.declared.module.Stmt.TheVariants as stmt
use Rattle.lg_vtree.specs.declared.module.Edge.{Edge}
use Rattle.lg_vtree.specs.declared.module.Module.{Module}
use Rattle.lg_vtree.specs.declared.expr.Expr.{Expr, fold-Expr}
use Rattle.lg_vtree.specs.declared.expr.Expr.TheOpen.{Expr-F}

abbrev pub greatest : List ℕ → ℕ
greatest [] = 0
greatest (n ∷ more) = max n (greatest more)

-- how deep an expression is: 1, and one more for each level of expressions inside
abbrev pub form_depth : Expr-F ℕ → ℕ
form_depth (Expr-F.Const c) = 1
form_depth (Expr-F.Whole name) = 1
form_depth (Expr-F.Bit name index) = 1
form_depth (Expr-F.Part name high low) = 1
form_depth (Expr-F.Item name e) = e + 1
form_depth (Expr-F.Join a b more) = greatest (a ∷ b ∷ more) + 1
form_depth (Expr-F.Not e) = e + 1
form_depth (Expr-F.Binary a op b) = max a b + 1
form_depth (Expr-F.Choice c a b) = max c (max a b) + 1

unfoldable pub depth : Expr → ℕ
depth e = fold-Expr ℕ form_depth e

abbrev pub stmt_depth : Stmt → ℕ
stmt_depth (stmt.Store name value) = depth value
stmt_depth (stmt.StoreIf condition name address value) = max (depth condition) (max (depth address) (depth value))

abbrev pub edge_depth : Option Edge → ℕ
edge_depth None = 0
edge_depth (Some e) = greatest (map stmt_depth e.stmts)

-- the depth of a module's deepest expression
abbrev pub module_depth : Module → ℕ
module_depth m = max (greatest (map (λ a. depth a.value) m.assigns)) (edge_depth m.edge)
