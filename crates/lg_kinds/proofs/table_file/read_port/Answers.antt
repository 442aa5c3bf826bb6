use Rattle.std.proofs.Common.{rules, w16, SFits, ◌≡◌, true, false}
use Rattle.std.proofs.lemmas.Int.{to_z-of_z}
use Rattle.lg_kinds.specs.declared.kind.Kind.TheVariants.{Splitter}
use Rattle.lg_kinds.specs.PortTable.{is_same}
use Rattle.lg_kinds.specs.TableFile.{has_port}
use Rattle.lg_kinds.proofs.FormLemmas.{port_says, port_form}
use Rattle.lg_kinds.proofs.table_file.read_port.Goals as goal

pub returns-in_default : goal.returns-in_default
returns-in_default c = λ said h. let says = port_says c.args.row.now c.args.kind c.requires.word c.requires.named said h in c.in_default.ensures says.2.0 says.2.1

pub returns-in_default-offset_of : goal.returns-in_default-offset_of
returns-in_default-offset_of c = λ said h. let says = port_says c.args.row.now c.args.kind c.requires.word c.requires.named said h in c.in_default-offset_of.ensures says.3.0 says.3.1

pub returns : goal.returns
returns c =
    let x : SFits w16 c.in-Some.dx = search rules in
    let y : SFits w16 c.in-Some-offset_of.dy = search rules in
    let movable : is_same c.args.kind Splitter ≡ false = search rules in
    let has : has_port c.args.kind c.args.row.now.item.now ≡ true = search rules in
    rw (to_z-of_z w16 c.in-Some.dx x, to_z-of_z w16 c.in-Some-offset_of.dy y) (port_form c.args.row.now c.args.kind c.in_ok-port.port c.in-Some.dx c.in-Some-offset_of.dy c.requires.word c.requires.named c.in_ok-port.ensures movable has c.in-Some.ensures c.in-Some-offset_of.ensures)
