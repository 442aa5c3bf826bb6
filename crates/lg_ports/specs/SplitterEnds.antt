-- The ends of a splitter. Source: the library reference of Logisim-evolution, Splitter; the places are this project's.
use Rattle.std.specs.Prelude.{ℕ, ℤ, pos, ◌+◌, ◌-◌, ◌*◌, ◌/◌, ◌%◌, ◌-ℤ◌, ◌+ℤ◌, neg_ℤ, max, Bool, false, ◌==◌, ◌||◌, List, [], ◌∷◌, count_by, Option, Some, nat_lt, if◌then◌else◌, codes}
use Rattle.std.specs.List.{flat_map, range_with_len}
use Rattle.std.specs.Option.{option_map_or}
use Rattle.lg_kinds.specs.declared.rows.Count.TheVariants.{Incoming}
use Rattle.lg_kinds.specs.declared.port.Port.{Port}
use Rattle.lg_kinds.specs.declared.port.Side.TheVariants.{Both}
use Rattle.lg_kinds.specs.declared.port.Loose.TheVariants.{Unknown}
use Rattle.lg_ports.specs.Given.{Given, number, number_of, is_said, numbered_value}

-- the end of bit k in the even split: the bits go to the ends in order, one more to each of the first ends; a splitter
-- has 1 end at least
abbrev pub even_end : ℕ → ℕ → ℕ → ℕ
even_end incoming fanout k =
    let each = incoming / max fanout 1 in
    let more = incoming % max fanout 1 in
    if nat_lt k (more * (each + 1)) then k / (each + 1) else more + (k - more * (each + 1)) / max each 1

-- the end of bit k: the one that its attribute numbers, no end where that is `none`, else that of the even split
abbrev pub end_of : Given → ℕ → Option ℕ
end_of given k =
    option_map_or number_of (numbered_value given (codes "bit") Incoming k)
    (Some (even_end (number given (codes "incoming")) (number given (codes "fanout")) k))

-- an end is the end of this number
abbrev pub is_end : Option ℕ → ℕ → Bool
is_end end i = option_map_or (λ e. e == i) end false

-- how many bits go to end i
abbrev pub bits_of : Given → ℕ → ℕ
bits_of given i =
    count_by (λ k. is_end (end_of given k) i) (range_with_len 0 (number given (codes "incoming")))

-- how far ends are apart
abbrev pub gap : Given → ℕ
gap given = 10 * number given (codes "spacing")

-- the ends stand on both sides of the middle
abbrev pub is_centred : Given → Bool
is_centred given =
    is_said given (codes "appear") (codes "center") || is_said given (codes "appear") (codes "legacy")

-- where the first end stands of a splitter that faces east: from the middle on, below it, or above it
abbrev pub start_east : Given → ℤ
start_east given =
    if is_centred given then neg_ℤ (pos (gap given * (number given (codes "fanout") / 2)))
    else (if is_said given (codes "appear") (codes "right") then pos (gap given)
    else neg_ℤ (pos (gap given * number given (codes "fanout"))))

-- of one that faces west
abbrev pub start_west : Given → ℤ
start_west given =
    if is_centred given then neg_ℤ (pos (gap given * (number given (codes "fanout") / 2)))
    else (if is_said given (codes "appear") (codes "right") then neg_ℤ (pos (gap given * number given (codes "fanout")))
    else pos (gap given))

-- of one that faces north
abbrev pub start_north : Given → ℤ
start_north given =
    if is_centred given then pos (gap given * ((number given (codes "fanout") + 1) / 2)) -ℤ pos (gap given)
    else (if is_said given (codes "appear") (codes "right") then pos (gap given * number given (codes "fanout"))
    else neg_ℤ (pos (gap given)))

-- of one that faces south
abbrev pub start_south : Given → ℤ
start_south given =
    if is_centred given then pos (gap given * ((number given (codes "fanout") + 1) / 2)) -ℤ pos (gap given)
    else (if is_said given (codes "appear") (codes "right") then neg_ℤ (pos (gap given))
    else pos (gap given * number given (codes "fanout")))

-- where end i stands
abbrev pub end_place : Given → ℕ → ℤ × ℤ
end_place given i =
    if is_said given (codes "facing") (codes "west") then (neg_ℤ (pos 20), start_west given +ℤ pos (gap given * i))
    else (if is_said given (codes "facing") (codes "north") then (start_north given -ℤ pos (gap given * i), neg_ℤ (pos 20))
    else (if is_said given (codes "facing") (codes "south") then (start_south given -ℤ pos (gap given * i), pos 20)
    else (pos 20, start_east given +ℤ pos (gap given * i))))

-- the port of end i
abbrev pub end_port : Given → ℕ → Port
end_port given i =
    let place = end_place given i in
    record { dx = place.0; dy = place.1; width = bits_of given i; side = Both; loose = Unknown }

-- the port of end i, where it has bits
abbrev pub ports_of_end : Given → ℕ → List Port
ports_of_end given i = if bits_of given i == 0 then [] else end_port given i ∷ []

-- the ports of the ends
abbrev pub end_ports : Given → List Port
end_ports given = flat_map (ports_of_end given) (range_with_len 0 (number given (codes "fanout")))
