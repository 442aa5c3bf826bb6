use Rattle.lg_timing.specs.Staying.{HasStood}
use Rattle.lg_instants.specs.Plain.{circuit_of}
use Rattle.lg_base_tests.proofs.timing.SampleKinds.{meaning_of}
use Rattle.lg_base_tests.proofs.timing.expect_settlings.Given as goal

abbrev pub invariant-loop-bit : goal.invariant-loop-bit
invariant-loop-bit g l = HasStood (circuit_of meaning_of l.circuit) l.stood
