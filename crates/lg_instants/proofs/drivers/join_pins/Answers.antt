use Rattle.std.proofs.Common.{drop, sym, ◌∙◌, arith}
use Rattle.lg_instants.proofs.DriverSteps.{words_on-past}
use Rattle.lg_instants.proofs.drivers.join_pins.Goals as goal

pub returns-then-i-words : goal.returns-then-i-words
returns-then-i-words c =
    sym (words_on-past c.loop-i.joined c.args.net c.loop-i.i (drop c.loop-i.i c.args.pins.now) c.args.words.now (omega arith)) ∙ c.loop-i.invariant
