-- The outputs of parts, numbered one part after another.
use Rattle.std.specs.Prelude.{◌≡◌, ℕ, suc, ◌+◌, ◌-◌, ◌<◌, ◌≤◌, nat_lt, List, [], ◌∷◌, length, sum, take, slice_index, slice_index_or, if◌then◌else◌}
use Rattle.lg_queue.specs.declared.outputs.Outputs.TheInside.{Inside}

-- a part has an output, where each part's number of outputs is given
abbrev pub IsOutput : List ℕ → ℕ → ℕ → Type 0
IsOutput outputs part output = (part < length outputs) × (output < slice_index outputs part)

-- the number of an output of a part: all outputs of earlier parts come first
abbrev pub number_of : List ℕ → ℕ → ℕ → ℕ
number_of outputs part output = sum (take part outputs) + output

-- the same place, one part later
abbrev pub next_part : ℕ × ℕ → ℕ × ℕ
next_part place = (suc place.0, place.1)

-- the part and the output of a number
unfoldable pub place_of : List ℕ → ℕ → ℕ × ℕ
place_of [] n = (0, n)
place_of (count ∷ counts) n = if nat_lt n count then (0, n) else next_part (place_of counts (n - count))

-- the numbers of the first outputs of the first parts
pub record AreFirsts (counts : List ℕ) (parts : ℕ) (firsts : List ℕ) : Type 0 where
  pub all : length firsts ≡ parts
  pub each : (part : ℕ) → part < parts → slice_index firsts part ≡ sum (take part counts)

-- the places of the first numbers, up to those of some outputs of a part
pub record ArePlaces (counts : List ℕ) (part output : ℕ) (places : List (ℕ × ℕ)) : Type 0 where
  pub all : length places ≡ number_of counts part output
  pub each : (n : ℕ) → n < length places → slice_index_or places n (0, 0) ≡ place_of counts n

-- tables of the number of each part's first output, and of the places of all numbers
pub record IsNumbering (s : Inside) : Type 0 where
  pub total : sum s.counts.items ≤ 1048576
  pub firsts : AreFirsts s.counts.items (length s.counts.items) s.firsts.items
  pub places : ArePlaces s.counts.items (length s.counts.items) 0 s.places.items
