use Rattle.lg_kinds.proofs.KindLemmas.{looked_up}
use Rattle.lg_kinds.proofs.kind.find_kind.Goals as goal

pub returns : goal.returns
returns c = looked_up c.args.name.now c.kind_named.result c.kind_named.ensures
