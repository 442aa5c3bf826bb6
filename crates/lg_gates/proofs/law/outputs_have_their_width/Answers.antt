use Rattle.lg_gates.proofs.Widths.{length-gate_word, length-not_word, length-buffer_word, length-controlled_word, length-shape_word, length-pick_word, length-spread_word, length-enabled_word, length-address, length-group_word}
use Rattle.lg_gates.proofs.law.outputs_have_their_width.Goals as goal

pub returns : goal.returns
returns c = record {
  gate = length-gate_word;
  not = length-not_word;
  buffer = length-buffer_word;
  controlled = length-controlled_word;
  shape = length-shape_word;
  pick = length-pick_word;
  spread = length-spread_word;
  enabled = length-enabled_word;
  address = length-address;
  group = length-group_word;
}
