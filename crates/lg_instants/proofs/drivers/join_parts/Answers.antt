use Rattle.std.proofs.Common.{drop, map, sym, ◌∙◌, arith}
use Rattle.lg_instants.proofs.DriverSteps.{parts_on-past, parts_on-more}
use Rattle.lg_instants.proofs.drivers.join_parts.Goals as goal

pub returns-then-i-outputs : goal.returns-then-i-outputs
returns-then-i-outputs g c =
    sym (parts_on-past c.loop-i.joined c.args.net c.loop-i.i (map g.P.Behaviour.meaning (drop c.loop-i.i c.args.parts.now)) c.args.outputs.now (omega arith)) ∙ c.loop-i.invariant

pub loop-i-preserved : goal.loop-i-preserved
loop-i-preserved g c =
    let e = parts_on-more g.P.Behaviour.meaning c.loop-i.joined c.args.net c.loop-i.i c.args.parts.now c.args.outputs.now c.index-parts-i.result c.index-outputs-i.result c.index-parts-i.is c.index-outputs-i.is (omega arith) (omega arith) in
    let f = c.join_ports-joined.ensures in
    let o = c.outputs.ensures in
    let w = c.words.ensures in
    let i = c.loop-i.invariant in cc
