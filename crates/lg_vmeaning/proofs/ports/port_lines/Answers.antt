use Rattle.std.proofs.Common.{◌≡◌, List, length, map, take, sym, ap, ◌∙◌, arith}
use Rattle.std.proofs.SliceLists.{take_long}
use Rattle.lg_vtree.specs.declared.module.Port.{Port}
use Rattle.lg_vrules.specs.Things.{port_thing}
use Rattle.lg_vmeaning.specs.Ports.{is_going, port_line}
use Rattle.lg_vmeaning.proofs.NameLemmas.{lines_in}
use Rattle.lg_vmeaning.proofs.SortLemmas.{going_lines}
use Rattle.lg_vmeaning.proofs.ports.port_lines.Goals as goal

pub returns : goal.returns
returns c =
    let m = c.args.«module».now in
    let all : take c.loop-port.port-index m.ports ≡ m.ports = take_long m.ports c.loop-port.port-index (omega (arith, ap length c.as_slice-port-items.ensures, c.loop-port-test.false)) in
    c.loop-port.invariant
    ∙ (ap (λ (some : List Port). map port_line (lines_in (is_going c.args.direction) (map port_thing some))) all
    ∙ ap (map port_line) (sym (going_lines c.args.direction m)))
