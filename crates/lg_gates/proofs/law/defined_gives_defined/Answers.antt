use Rattle.lg_gates.proofs.DefinedOutputs.{gate_word-defined, not_word-defined, buffer_word-defined, shape_word-ZeroOne, pick_word-IsDefined, spread_word-IsDefined, enabled_word-defined, priority_of-defined, group_bit-defined, enable_output-defined, group_word-IsDefined}
use Rattle.lg_gates.proofs.law.defined_gives_defined.Goals as goal

pub returns : goal.returns
returns c = record {
  gate = gate_word-defined;
  not = not_word-defined;
  buffer = buffer_word-defined;
  shape = shape_word-ZeroOne;
  pick = pick_word-IsDefined;
  spread = spread_word-IsDefined;
  enabled = enabled_word-defined;
  address = priority_of-defined;
  group_bit = group_bit-defined;
  enable_output = enable_output-defined;
  group = group_word-IsDefined;
}
