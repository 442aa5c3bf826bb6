use Rattle.std.proofs.Common.{sym, ap, ◌∙◌, map}
use Rattle.lg_vrules.specs.Known.{width_under}
use Rattle.lg_vrules.specs.Rules.{expr_width, sum_of}
use Rattle.lg_vrules.proofs.WidthLemmas.{width-Join, joined}
use Rattle.lg_vrules.proofs.names.NameIndex.+widths.Goals as goal

pub width-returns-in_ok-second-in-Join-clause-value : goal.width-returns-in_ok-second-in-Join-clause-value
width-returns-in_ok-second-in-Join-clause-value t c =
    let width = width_under c.args.self.now in
    let a = c.in-Join.first in
    let b = c.in-Join.second in
    let more = c.in-Join.more in
    c.at_most_128.ensures.value
    ∙ sym (joined (expr_width width a) (expr_width width b) (map (expr_width width) more) c.in_ok-first-in-Join.first c.in_ok-second-in-Join.second c.in_ok-rest-in-Join.rest
    (ap (expr_width width) (sym c.get-in-Join.ensures) ∙ sym c.in_ok-first-in-Join.ensures.value)
    (ap (expr_width width) (sym c.get-in-Join-2.ensures) ∙ sym c.in_ok-second-in-Join.ensures.value)
    (ap (λ es. sum_of (map (expr_width width) es)) (sym c.as_slice.ensures) ∙ sym c.in_ok-rest-in-Join.ensures.value))
    ∙ sym (width-Join width a b more)
    ∙ ap (expr_width width) (sym c.in-Join.is)
