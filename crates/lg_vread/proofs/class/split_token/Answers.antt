use Rattle.lg_vread.proofs.Cutting.{split_cut}
use Rattle.lg_vread.proofs.class.split_token.Goals as goal

pub returns : goal.returns
returns c = rw (c.split_at.ensures.front, c.split_at.ensures.back, c.token_len.ensures.value, c.skip_white-text.ensures) (split_cut c.args.bytes.now)
