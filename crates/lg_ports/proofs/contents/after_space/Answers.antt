use Rattle.std.specs.Prelude.{codes}
use Rattle.lg_ports.specs.Contents.{Then, Marked, Numbered, EndsLine}
use Rattle.lg_ports.proofs.ContentsLemmas.{then_read, one_marked}
use Rattle.lg_ports.proofs.contents.after_space.Goals as goal

pub returns : goal.returns
returns c =
    then_read (Marked (codes " ")) (Then (Numbered c.args.width) EndsLine) (one_marked (codes " ")) c.args.text.now c.in_ok-behind.field-0.now c.after_second.result c.in_ok-behind.ensures c.after_second.ensures
