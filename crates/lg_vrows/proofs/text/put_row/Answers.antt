use Rattle.std.proofs.Common.{◌≡◌, ◌++◌, List, ℕ, length, ap, ◌∙◌}
use Rattle.std.specs.Fmt.{decimal}
use Rattle.std.specs.Slice.Iter.{iter_rest}
use Rattle.std.specs.Iterator.Adapters.{zip_first, zip_second}
use Rattle.std.proofs.lemmas.List.{length_push}
use Rattle.std.proofs.lemmas.Slice.Zip.{zip_turn, zip_end}
use Rattle.lg_vmeaning.specs.declared.ports.PortLine.{PortLine}
use Rattle.lg_vrows.specs.Text.{binary}
use Rattle.lg_vrows.proofs.TextLemmas.{field_more, row_end}
use Rattle.lg_vrows.proofs.text.put_row.Goals as goal

pub loop-port-preserved : goal.loop-port-preserved
loop-port-preserved c =
    let ports : List PortLine = c.args.ports.now in
    let out = c.args.out.now in
    let port : PortLine = c.in-Some.port.now in
    let value = c.in-Some.value.now in
    let first : iter_rest (zip_first c.into_iter-port-iterator.result) ≡ ports = cc in
    let zipped : iter_rest (zip_second c.zip-port-items.result) ≡ out = c.zip-port-items.ensures.second.0 in
    let second : iter_rest (zip_second c.into_iter-port-iterator.result) ≡ out = ap (λ s. iter_rest (zip_second s)) c.into_iter-port-iterator.ensures.into_iter_gives ∙ zipped in
    let turn = zip_turn ports out c.loop-port.yielded c.into_iter-port-iterator.result c.loop-port.port-iterator c.next.new.self c.next.result first second c.loop-port.yielded_by (c.in-Some.port, c.in-Some.value) c.in-Some.is c.next.ensures.steps in
    field_more ports out (length c.loop-port.yielded) _ port value (length_push c.loop-port.yielded (c.in-Some.port, c.in-Some.value)) turn.0 turn.1 (turn.2 port) (turn.3 value)
    (c.args.text.now.items ++ decimal c.args.number) c.loop-port.text.items c.put_binary.new.text.items c.loop-port.invariant (c.in_ok-put_binary.ensures ∙ ap (λ (text : List ℕ). text ++ binary port.width value) c.in_ok-push.ensures.items)

pub returns : goal.returns
returns c =
    let ports : List PortLine = c.args.ports.now in
    let out = c.args.out.now in
    let first : iter_rest (zip_first c.into_iter-port-iterator.result) ≡ ports = cc in
    let second : iter_rest (zip_second c.into_iter-port-iterator.result) ≡ out = cc in
    let end = zip_end ports out c.loop-port.yielded c.into_iter-port-iterator.result c.loop-port.port-iterator c.next.new.self c.next.result first second c.loop-port.yielded_by c.in-None.is c.next.ensures.steps in
    row_end ports out (length c.loop-port.yielded) c.args.number end c.args.text.now.items c.loop-port.text.items c.push-2.new.self.items c.loop-port.invariant c.in_ok-push-2.ensures.items
