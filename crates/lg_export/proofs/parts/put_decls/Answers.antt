-- One output more.
use Rattle.std.proofs.Common.{◌≡◌, ◌+◌, ◌<◌, [], ◌∷◌, drop, length, get_or, arith}
use Rattle.std.specs.List.{enumerate_from}
use Rattle.std.proofs.lemmas.Grind.{common_steps}
use Rattle.std.proofs.lemmas.List.{at_drop_more}
use Rattle.lg_export.proofs.parts.put_decls.Goals as goal

pub loop-output-preserved : goal.loop-output-preserved
loop-output-preserved c =
    let outputs = c.args.used.now.outputs in
    let i = c.loop-output.output in
    let less : i < length outputs = omega arith in
    let step : enumerate_from i (drop i outputs) ≡ (i, get_or outputs i []) ∷ enumerate_from (i + 1) (drop (i + 1) outputs) = at_drop_more (enumerate_from i) outputs i [] less in
    grind (arith, common_steps)
