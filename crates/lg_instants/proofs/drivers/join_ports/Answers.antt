use Rattle.std.proofs.Common.{drop, map, sym, ◌∙◌, arith}
use Rattle.lg_timing.specs.Circuit.{Port}
use Rattle.lg_instants.proofs.DriverSteps.{words_on-past}
use Rattle.lg_instants.proofs.drivers.join_ports.Goals as goal

pub returns-then-i-words : goal.returns-then-i-words
returns-then-i-words c =
    sym (words_on-past c.loop-i.joined c.args.net c.loop-i.i (map (λ (port : Port). port.nets) (drop c.loop-i.i c.args.ports.now)) c.args.words.now (omega arith)) ∙ c.loop-i.invariant
