use Rattle.std.proofs.Common.{refl, rules, ◌≡◌, length}
use Rattle.csv.specs.Records.{fields_of}
use Rattle.lg_kinds.proofs.CellLemmas.{five, field_there}
use Rattle.lg_kinds.proofs.cells.cells_of.Goals as goal

pub returns : goal.returns
returns c =
    let fields = fields_of c.args.row.now in
    let long : length fields ≡ 5 = search rules in
    let all = five fields long in
    let one = field_there fields 0 c.get.result _ c.unwrap_or.result refl c.get.ensures.value c.unwrap_or.ensures in
    let two = field_there fields 1 c.get-2.result _ c.unwrap_or-2.result refl c.get-2.ensures.value c.unwrap_or-2.ensures in
    let three = field_there fields 2 c.get-3.result _ c.unwrap_or-3.result refl c.get-3.ensures.value c.unwrap_or-3.ensures in
    let four = field_there fields 3 c.get-4.result _ c.unwrap_or-4.result refl c.get-4.ensures.value c.unwrap_or-4.ensures in
    let last = field_there fields 4 c.get-5.result _ c.unwrap_or-5.result refl c.get-5.ensures.value c.unwrap_or-5.ensures in
    cc
