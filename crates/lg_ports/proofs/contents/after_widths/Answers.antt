use Rattle.std.proofs.Common.{List, ℕ}
use Rattle.std.specs.Prelude.{codes}
use Rattle.lg_ports.specs.Contents.{Then, Marked, Numbered, EndsLine, HasWidths}
use Rattle.lg_ports.proofs.ContentsLemmas.{then_read, then_refused, one_marked}
use Rattle.lg_ports.proofs.contents.after_widths.Goals as goal

pub returns-in_err-behind : goal.returns-in_err-behind
returns-in_err-behind c =
    let refused : (rest : List ℕ) → HasWidths c.args.address c.args.width c.args.text.now rest → ⊥ = then_refused (Marked (codes "addr/data: ")) (Then (Numbered c.args.address) (Then (Marked (codes " ")) (Then (Numbered c.args.width) EndsLine))) c.args.text.now c.in_err-behind.ensures in
    rw c.from_residual.ensures refused

pub returns : goal.returns
returns c =
    then_read (Marked (codes "addr/data: ")) (Then (Numbered c.args.address) (Then (Marked (codes " ")) (Then (Numbered c.args.width) EndsLine))) (one_marked (codes "addr/data: ")) c.args.text.now c.in_ok-behind.field-0.now c.after_both.result c.in_ok-behind.ensures c.after_both.ensures
