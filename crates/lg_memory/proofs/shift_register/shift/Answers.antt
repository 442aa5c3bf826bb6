use Rattle.std.proofs.Common.{◌≡◌, ◌<◌, [], length, get_or, arith, ◌∙◌, rules}
use Rattle.std.proofs.lemmas.List.{get_or_default}
use Rattle.lg_memory.proofs.ShiftLemmas.{shift_step}
use Rattle.lg_memory.proofs.shift_register.shift.Goals as goal

pub loop-stage-preserved : goal.loop-stage-preserved
loop-stage-preserved c =
    let now = c.loop-stage.stages in
    let stage = c.loop-stage.stage in
    let held = c.index-as_slice-stage.result in
    let inside : stage < length now = omega arith in
    let read : held ≡ get_or now stage held = search rules in
    rw c.set.ensures (shift_step c.args.si c.loop-stage.carried held c.args.stages.now now stage inside c.loop-stage.invariant (read ∙ get_or_default now stage held [] inside))
