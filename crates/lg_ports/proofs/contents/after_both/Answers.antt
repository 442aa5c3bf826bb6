use Rattle.std.specs.Prelude.{codes}
use Rattle.lg_ports.specs.Contents.{Then, Marked, Numbered, EndsLine}
use Rattle.lg_ports.proofs.ContentsLemmas.{then_read, one_numbered}
use Rattle.lg_ports.proofs.contents.after_both.Goals as goal

pub returns : goal.returns
returns c =
    then_read (Numbered c.args.address) (Then (Marked (codes " ")) (Then (Numbered c.args.width) EndsLine)) (one_numbered c.args.address) c.args.text.now c.in_ok-after_number.field-0.now c.after_space.result c.in_ok-after_number.ensures c.after_space.ensures
