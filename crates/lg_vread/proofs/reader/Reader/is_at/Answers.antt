use Rattle.std.proofs.Common.{ap, ◌∙◌}
use Rattle.std.specs.Str.{bytes_eq}
use Rattle.lg_vread.proofs.Taking.{at_is}
use Rattle.lg_vread.proofs.reader.Reader.is_at.Goals as goal

pub returns : goal.returns
returns c = c.eq.ensures ∙ ap (bytes_eq c.args.self.now.token.now) c.as_bytes.ensures.value ∙ at_is c.args.text.now c.args.self.now c.requires
