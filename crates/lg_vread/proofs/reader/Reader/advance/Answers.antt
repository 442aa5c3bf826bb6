use Rattle.std.proofs.Common.{sym, ap, map}
use Rattle.lg_vread.specs.Lexing.{token_of, tokens_of, left, behind}
use Rattle.lg_vread.proofs.reader.Reader.advance.Goals as goal

pub returns : goal.returns
unfolding left behind tokens_of
returns c = ap (map token_of) (sym c.split_token.ensures)
