-- How long chains are by the nets on which they end: what code keeps of them.
use Rattle.std.specs.Prelude.{ℕ, max, List, [], ◌∷◌, slice_index_or, slice_set}

-- the greatest of the arrivals on some nets; 0 where there is no net
abbrev pub latest : List ℕ → List ℕ → ℕ
latest arrivals [] = 0
latest arrivals (net ∷ nets) = max (slice_index_or arrivals net 0) (latest arrivals nets)

-- the arrivals, raised to a delay on each of some nets
abbrev pub raised : ℕ → List ℕ → List ℕ → List ℕ
raised delay [] arrivals = arrivals
raised delay (net ∷ nets) arrivals = raised delay nets (slice_set arrivals net (max (slice_index_or arrivals net 0) delay))
