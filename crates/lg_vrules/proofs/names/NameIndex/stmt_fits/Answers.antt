use Rattle.std.proofs.Common.{◌≡◌, Bool, true, ◌&&◌, sym, ap, ◌∙◌}
use Rattle.std.specs.Prelude.{is_some}
use Rattle.lg_vrules.specs.Known.{width_under}
use Rattle.lg_vrules.specs.Rules.{expr_width, is_width, stmt_fits}
use Rattle.lg_vrules.proofs.names.NameIndex.stmt_fits.Goals as goal

pub returns-then-is_width : goal.returns-then-is_width
returns-then-is_width c =
    let width = width_under c.args.self.now in
    let s = c.in-StoreIf in
    let rest = is_some (expr_width width s.address) && is_width width (width s.name) s.value in
    let first : is_width width 1 s.condition ≡ true = sym c.is_width-in-StoreIf.ensures ∙ c.if-is_width.true in
    c.store_fits.ensures ∙ (ap (λ (b : Bool). b && rest) (sym first) ∙ ap (stmt_fits width) (sym s.is))
