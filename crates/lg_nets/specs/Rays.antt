-- The nodes of a sheet as lines that are seen from their first ends.
use Rattle.std.specs.Prelude.{List, ◌++◌, map}
use Rattle.lg_circ.specs.declared.project.Point.{Point}
use Rattle.lg_nets.specs.declared.rays.Segment.{Segment}

-- a line between two points
abbrev pub segment : Point → Point → Segment
segment from to = record { from = from; to = to }

-- the line of length 0 at a point
abbrev pub dot : Point → Segment
dot p = segment p p

-- the line seen from its other end
abbrev pub reversed : Segment → Segment
reversed w = segment w.to w.from

-- each port as a line of length 0, and each wire from both ends; node i of the sheet is the first end of ray i
unfoldable pub rays : List Segment → List Point → List Segment
rays segments ports = map dot ports ++ segments ++ map reversed segments

-- x and y exchanged
abbrev pub flipped : Point → Point
flipped p = record { x = p.y; y = p.x }

-- the line with x and y exchanged
abbrev pub transposed : Segment → Segment
transposed w = segment (flipped w.from) (flipped w.to)
