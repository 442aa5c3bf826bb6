-- How wide ports are, and where they stand. Source: the library reference of Logisim-evolution, the shapes of gates,
-- plexers and arithmetic; the numbers are this project's.
use Rattle.std.specs.Prelude.{ℕ, ℤ, pos, neg_ℤ, ◌+◌, ◌-◌, ◌*◌, ◌/◌, ◌%◌, ◌+ℤ◌, ◌-ℤ◌, max, Bool, ◌&&◌, ◌||◌, ◌==◌, nat_le, List, if◌then◌else◌, codes}
use Rattle.std.specs.Str.{bytes_eq}
use Rattle.lg_arith.specs.Count.{least_width, select_width}
use Rattle.lg_kinds.specs.declared.rows.Size.{Size}
use Rattle.lg_kinds.specs.declared.rows.Size.TheVariants.{Any, One, Width, InWidth, OutWidth, Incoming, Group, Select, AddrWidth, DataWidth, GroupSelect, Distance, Total}
use Rattle.lg_kinds.specs.declared.rows.Place.{Place}
use Rattle.lg_kinds.specs.declared.rows.Place.TheVariants.{At, Row, Behind, GateInput, Control, FanIn, FanOut, Column, Aside, Beneath, Above}
use Rattle.lg_kinds.specs.declared.rows.Count.TheVariants.{Inputs}
use Rattle.lg_ports.specs.Given.{Given, number, is_said, selections, is_flagged}

-- how many bits a port has; 0 for as many as there are
abbrev pub size_of : Given → Size → ℕ
size_of given Any = 0
size_of given One = 1
size_of given Width = number given (codes "width")
size_of given InWidth = number given (codes "in_width")
size_of given OutWidth = number given (codes "out_width")
size_of given Incoming = number given (codes "incoming")
size_of given Group = number given (codes "group")
size_of given Select = number given (codes "select")
size_of given AddrWidth = number given (codes "addrWidth")
size_of given DataWidth = number given (codes "dataWidth")
size_of given GroupSelect = select_width (number given (codes "group")) (number given (codes "width"))
size_of given Distance = select_width 1 (number given (codes "width"))
size_of given Total = least_width (number given (codes "inputs") * number given (codes "width"))

-- a number of inputs is even
abbrev pub is_even : ℕ → Bool
is_even n = n % 2 == 0

-- how far the inputs of a gate with three inputs are apart
abbrev pub third_step : ℕ → ℕ
third_step size = if size == 30 then 10 else (if size == 50 then 20 else 30)

-- how far the first input of a gate stands above its middle
abbrev pub gate_start : ℕ → ℕ → ℕ
gate_start inputs size =
    if inputs == 2 then (if size == 30 then 10 else 20)
    else (if inputs == 3 then third_step size
    else (if inputs == 4 && size == 70 then 30
    else (if is_even inputs then 5 * inputs else 5 * (inputs - 1))))

-- how far an input of a gate stands below the one before
abbrev pub gate_step : ℕ → ℕ → ℕ
gate_step inputs size =
    if inputs == 2 then (if size == 30 then 20 else 40)
    else (if inputs == 3 then third_step size
    else (if inputs == 4 && size == 70 then 20 else 10))

-- the gap in the middle of a gate with an even number of inputs, of more than 2 and of no 4 at size 70: the lower half
-- stands so much lower
abbrev pub gate_gap : ℕ → ℕ → ℕ → ℕ
gate_gap inputs size k =
    if inputs == 2 || (inputs == 4 && size == 70) then 0
    else (if is_even inputs && nat_le (inputs / 2) k then 10 else 0)

-- where input k of a gate stands, above or below its middle
abbrev pub gate_y : ℕ → ℕ → ℕ → ℤ
gate_y inputs size k = pos (gate_step inputs size * k + gate_gap inputs size k) -ℤ pos (gate_start inputs size)

-- how far a negated input stands from the gate
abbrev pub bubble : Bool → ℕ
bubble negated = if negated then 10 else 0

-- where input k of a gate stands, whose body is so much longer than its size
abbrev pub gate_input : Given → ℕ → ℕ → ℤ × ℤ
gate_input given extra k =
    (neg_ℤ (pos (number given (codes "size") + extra + bubble (is_flagged given (codes "negate") Inputs k))), gate_y (number given (codes "inputs")) (number given (codes "size")) k)

-- how far the first of so many lines of a plexer stands above its middle
abbrev pub fan_start : ℕ → ℕ
fan_start lines = if lines == 2 then 10 else 5 * lines

-- where line k of a plexer with so many lines stands, above or below its middle
abbrev pub fan_y : ℕ → ℕ → ℤ
fan_y lines k = pos ((if lines == 2 then 20 else 10) * k) -ℤ pos (fan_start lines)

-- how far a multiplexer's inputs, or a demultiplexer's outputs, of which there are so many, stand from its single data port
abbrev pub fan_reach : ℕ → ℕ
fan_reach lines = if lines == 2 then 30 else (if lines == 4 then 40 else 50)

-- how far below its middle a plexer has its controls
abbrev pub below_fan : ℕ → ℕ
below_fan lines = 5 * lines + 10

-- below the middle, or above it where `selloc` is `tr`
abbrev pub aside : Given → ℤ
aside given =
    if is_said given (codes "selloc") (codes "tr") then neg_ℤ (pos (below_fan (selections given)))
    else pos (below_fan (selections given))

-- where port number k stands, with the part facing east
abbrev pub place_at : Given → Place → ℕ → ℤ × ℤ
place_at given (At x y) k = (x, y)
place_at given (Row x y step) k = (x, y +ℤ pos (step * k))
place_at given Behind k = (neg_ℤ (pos (number given (codes "size"))), pos 0)
place_at given (GateInput extra) k = gate_input given extra k
place_at given Control k = (neg_ℤ (pos 10), if is_said given (codes "control") (codes "left") then neg_ℤ (pos 10) else pos 10)
place_at given FanIn k = (neg_ℤ (pos (fan_reach (selections given))), fan_y (selections given) k)
place_at given FanOut k = (pos (fan_reach (selections given)), fan_y (selections given) k)
place_at given (Column x) k = (x, fan_y (selections given) k)
place_at given (Aside x) k = (x, aside given)
place_at given (Beneath x) k = (x, pos (below_fan (selections given)))
place_at given (Above x) k = (x, neg_ℤ (pos (below_fan (selections given))))

-- a place of what faces east, turned as it faces
abbrev pub turned : List ℕ → ℤ × ℤ → ℤ × ℤ
turned facing place =
    if bytes_eq facing (codes "west") then (neg_ℤ place.0, place.1)
    else (if bytes_eq facing (codes "north") then (place.1, neg_ℤ place.0)
    else (if bytes_eq facing (codes "south") then (place.1, place.0)
    else place))
