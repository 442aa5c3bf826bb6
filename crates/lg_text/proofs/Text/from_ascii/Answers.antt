-- ASCII bytes are UTF-8, so they are never refused.
use Rattle.std.proofs.Common.{◌≡◌, Bool, true, false}
use Rattle.std.proofs.lemmas.Bool.{false≢true}
use Rattle.std.proofs.lemmas.Str.{IsUtf8-from_ascii}
use Rattle.lg_text.proofs.Text.from_ascii.Goals as goal

pub unreachable-requires : goal.unreachable-requires
unreachable-requires c = false≢true (c.in-Err.ensures.succeeds (IsUtf8-from_ascii _ c.requires))
