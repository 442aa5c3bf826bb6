-- Both coordinates stay within 32 bits.
use Rattle.lg_flatten.proofs.UseLemmas.{point_same, sum_is, on_sheet_parts}
use Rattle.lg_flatten.proofs.places.moved.Goals as goal

pub returns : goal.returns
returns c =
    let near = on_sheet_parts c.args.place c.requires.on_sheet in
    point_same _ _ _ _ (sum_is c.args.place.x c.args.right near.0 c.requires.little_right) (sum_is c.args.place.y c.args.down near.1 c.requires.little_down)
