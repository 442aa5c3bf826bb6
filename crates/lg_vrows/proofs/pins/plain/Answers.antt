use Rattle.std.proofs.lemmas.Str.{IsCharBoundary-after_ascii}
use Rattle.lg_vrows.proofs.pins.plain.Goals as goal

pub range_from-requires : goal.range_from-requires
range_from-requires c = λ _. IsCharBoundary-after_ascii c.args.name.now 1 c.utf8.name c.requires.long c.requires.ascii
