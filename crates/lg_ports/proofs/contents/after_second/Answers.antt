use Rattle.lg_ports.specs.Contents.{Numbered, EndsLine}
use Rattle.lg_ports.proofs.ContentsLemmas.{then_read, one_numbered}
use Rattle.lg_ports.proofs.contents.after_second.Goals as goal

pub returns : goal.returns
returns c =
    then_read (Numbered c.args.width) EndsLine (one_numbered c.args.width) c.args.text.now c.in_ok-after_number.field-0.now c.after_line_end.result c.in_ok-after_number.ensures c.after_line_end.ensures
