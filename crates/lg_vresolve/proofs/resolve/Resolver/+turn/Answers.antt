use Rattle.std.proofs.Common.{◌≡◌, map, fold, IfOk, ℕ, List, Option, sym, ap, subst, ◌∙◌}
use Rattle.lg_vtree.specs.declared.expr.Expr.{Expr}
use Rattle.lg_vtree.specs.declared.expr.Expr.TheFolds.{fold-roll-Expr}
use Rattle.lg_vtree.specs.declared.expr.Expr.TheOpen.{Expr-F}
use Rattle.lg_vtree.specs.declared.expr.Expr.TheVariants.{rolls-Join}
use Rattle.lg_vtree.specs.declared.expr.Expr.TheVariants as expr
use Rattle.lg_vrules.specs.Known.{width_under}
use Rattle.lg_vrules.specs.Indexes.{index_under}
use Rattle.lg_vresolve.specs.declared.resolve.Resolved.{Resolved}
use Rattle.lg_vresolve.specs.Resolved.{resolved, resolved_join, form_resolved}
use Rattle.lg_vresolve.proofs.resolve.Resolver.+turn.Goals as goal

resolved-Join : (width : List ℕ → ℕ) (index memory : List ℕ → Option ℕ) (a b : Expr) (more : List Expr)
    → fold resolved_join (resolved_join (resolved width index memory a) (resolved width index memory b)) (map (resolved width index memory) more) ≡ resolved width index memory (expr.Join a b more)
resolved-Join width index memory a b more =
    sym (fold-roll-Expr Resolved (form_resolved width index memory) (Expr-F.Join a b more)) ∙ ap (resolved width index memory) (rolls-Join a b more)

pub turn-returns-in_ok-joined-in-Join : goal.turn-returns-in_ok-joined-in-Join
turn-returns-in_ok-joined-in-Join t c =
    let width = width_under c.args.self.now.names.now in
    let index = index_under c.args.self.now.numbers.now in
    let memory = index_under c.args.self.now.memories.now in
    let turned = resolved width index memory in
    let first = c.in_ok-first-in-Join.ensures ∙ ap turned c.get-in-Join.ensures in
    let second = c.in_ok-second-in-Join.ensures ∙ ap turned c.get-in-Join-2.ensures in
    let start = c.in_ok-joined-in-Join.ensures ∙ (λ i. resolved_join (first i) (second i)) in
    let whole = (λ i. fold resolved_join (start i) (map turned (c.as_slice.ensures i))) ∙ (resolved-Join width index memory c.in-Join.first c.in-Join.second c.in-Join.more ∙ ap turned (sym c.in-Join.is)) in
    subst (λ x. IfOk c.join_all.result (λ r. r ≡ x)) whole c.join_all.ensures
