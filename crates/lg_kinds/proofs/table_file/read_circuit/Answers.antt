use Rattle.std.proofs.Common.{rules, w16, SFits}
use Rattle.std.proofs.lemmas.Int.{to_z-of_z}
use Rattle.lg_kinds.proofs.FormLemmas.{circuit_says, circuit_form}
use Rattle.lg_kinds.proofs.table_file.read_circuit.Goals as goal

pub returns-in_default : goal.returns-in_default
returns-in_default c = λ said h. let says = circuit_says c.args.row.now c.requires.word said h in c.in_default.ensures says.0.0 says.0.1

pub returns-in_default-offset_of : goal.returns-in_default-offset_of
returns-in_default-offset_of c = λ said h. let says = circuit_says c.args.row.now c.requires.word said h in c.in_default-offset_of.ensures says.1.0 says.1.1

pub returns : goal.returns
returns c =
    let x : SFits w16 c.in-Some.dx = search rules in
    let y : SFits w16 c.in-Some-offset_of.dy = search rules in
    rw (to_z-of_z w16 c.in-Some.dx x, to_z-of_z w16 c.in-Some-offset_of.dy y) (circuit_form c.args.row.now c.in_ok-sheet.sheet c.in_ok-pin.pin c.in-Some.dx c.in-Some-offset_of.dy c.requires.word c.in_ok-sheet.ensures c.in_ok-pin.ensures c.in-Some.ensures c.in-Some-offset_of.ensures)
