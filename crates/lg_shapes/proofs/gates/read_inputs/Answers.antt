use Rattle.std.proofs.Common.{◌≡◌, [], false, get_or, sym, ap, ◌∙◌, arith, length-set}
use Rattle.std.proofs.lemmas.List.{take_more_set, get_or_default}
use Rattle.std.proofs.lemmas.List.FromFn.{map-range_with_len_more}
use Rattle.lg_memory.specs.Inputs.{word_at}
use Rattle.lg_shapes.specs.Gates.{read_input, read_at}
use Rattle.lg_shapes.proofs.gates.read_inputs.Goals as goal

pub loop-k-preserved : goal.loop-k-preserved
loop-k-preserved c =
    let k = c.loop-k.k in
    let negated = c.args.negated.now in
    let attached = c.args.attached.now in
    let inputs = c.args.inputs.now in
    let word : c.index-inputs-k.result ≡ word_at inputs k = c.index-inputs-k.is ∙ get_or_default inputs k c.index-inputs-k.result [] c.loop-k-test.true in
    let read : c.read_input.result ≡ read_at negated attached inputs k = c.read_input.ensures ∙ ap (read_input (get_or negated k false) (get_or attached k false)) word in
    record {
      read = take_more_set c.loop-k.room k c.read_input.result (omega arith)
          ∙ rw (c.loop-k.invariant.read, read) (sym (map-range_with_len_more (read_at negated attached inputs) 0 k k (omega arith)));
      length = length-set c.loop-k.room k c.read_input.result ∙ c.loop-k.invariant.length;
    }
