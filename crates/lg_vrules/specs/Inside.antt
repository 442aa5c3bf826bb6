-- What holds at each form inside an expression, the whole one too.
use Rattle.std.specs.Prelude.{Bool, true, ◌&&◌}
use Rattle.std.specs.List.{list_all}
use Rattle.lg_vtree.specs.declared.expr.Expr.{Expr, fold-Expr, roll-Expr}
use Rattle.lg_vtree.specs.declared.expr.Expr.TheFolds.{map-Expr}
use Rattle.lg_vtree.specs.declared.expr.Expr.TheOpen.{Expr-F}

-- all of an expression's parts pass
abbrev pub all_pass : Expr-F Bool → Bool
all_pass (Expr-F.Const c) = true
all_pass (Expr-F.Whole name) = true
all_pass (Expr-F.Bit name index) = true
all_pass (Expr-F.Part name high low) = true
all_pass (Expr-F.Item name e) = e
all_pass (Expr-F.Join a b more) = list_all (λ e. e) more && (a && b)
all_pass (Expr-F.Not e) = e
all_pass (Expr-F.Binary a op b) = a && b
all_pass (Expr-F.Choice c a b) = c && (a && b)

-- an expression, and whether a test holds at each form inside it, from the same of its parts
abbrev pub form_inside : (Expr-F Expr → Bool) → Expr-F (Expr × Bool) → Expr × Bool
form_inside here f = (roll-Expr (map-Expr _ Expr (λ (p : Expr × Bool). p.0) f), here (map-Expr _ Expr (λ (p : Expr × Bool). p.0) f) && all_pass (map-Expr _ Bool (λ (p : Expr × Bool). p.1) f))

abbrev pub folded : (Expr-F Expr → Bool) → Expr → Expr × Bool
folded here e = fold-Expr (Expr × Bool) (form_inside here) e

-- the test holds at each form inside the expression
abbrev pub holds_inside : (Expr-F Expr → Bool) → Expr → Bool
holds_inside here e = (folded here e).1
