-- Wires that are drawn as wires are: level or upright.
use Rattle.std.specs.Prelude.{Bool, ◌||◌}
use Rattle.std.specs.Ordering.{int_eq}
use Rattle.lg_circ.specs.declared.project.Wire.{Wire}

-- the wire is level or upright
abbrev pub is_straight : Wire → Bool
is_straight w = int_eq w.from.x w.to.x || int_eq w.from.y w.to.y
