use Rattle.lg_memory.specs.Shape.{HasShape}
use Rattle.lg_values_tests.proofs.memory.stores.repeat.Given as goal

abbrev pub invariant-loop-time : goal.invariant-loop-time
invariant-loop-time l = HasShape l.form l.state
