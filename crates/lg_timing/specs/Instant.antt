-- The value of every net at an instant, by recursion over the instants before it.
use Rattle.std.specs.Prelude.{ℕ, zero, suc, ◌-◌, ◌==◌, nat_le, List, [], ◌∷◌, ◌++◌, length, map, filter, fold, replicate, Option, Some, None, slice_get, slice_index_or, if◌then◌else◌}
use Rattle.std.specs.List.{flat_map, enumerate_from}
use Rattle.lg_value.specs.declared.bit.Bit.{Bit}
use Rattle.lg_value.specs.declared.bit.Bit.TheVariants.{Zero, One, Unknown, Error}
use Rattle.lg_value.specs.Drivers.{join_of_drivers}
use Rattle.lg_timing.specs.Circuit.{Word, Port, Part, Circuit, Stimulus}

-- what there is at an instant: the bit of each net, and the state of each part
pub record Instant : Type 0 where
  pub nets : ℕ → Bit
  pub states : List (List Word)

abbrev pub state_of : Instant → ℕ → List Word
state_of instant part = slice_index_or instant.states part []

abbrev pub unknown_words : List Port → List Word
unknown_words ports = map (λ (p : Port). replicate p.width Unknown) ports

-- the word on a port, which is unknown where nothing is attached
abbrev pub word_at : (ℕ → Bit) → ℕ → List ℕ → Word
word_at nets width [] = replicate width Unknown
word_at nets width (net ∷ more) = map nets (net ∷ more)

-- the words on a part's inputs
abbrev pub input_words : (ℕ → Bit) → Part → List Word
input_words nets p = map (λ (port : Port). word_at nets port.width port.nets) p.inputs

-- a part with its number
abbrev pub Numbered : Type 0
Numbered = ℕ × Part

abbrev pub numbered_parts : Circuit → List Numbered
numbered_parts c = enumerate_from 0 c.parts

-- what a part answers to an instant
abbrev pub answered : Numbered → Option Instant → List Word
answered p None = unknown_words p.1.outputs
answered p (Some instant) = p.1.out (state_of instant p.0) (input_words instant.nets p.1)

-- The words on a part's outputs after these instants, of which the newest is the first: what it answers to the instant
-- its delay ago, and unknown words before its delay has passed.
abbrev pub output_words : List Instant → Numbered → List Word
output_words past p = answered p (slice_get past (p.1.delay - 1))

-- the bits that a word puts on a net
abbrev pub bits_on : ℕ → List ℕ → Word → List Bit
bits_on net (n ∷ nets) (bit ∷ word) = if n == net then bit ∷ bits_on net nets word else bits_on net nets word
bits_on net _ _ = []

-- the bits that some words put on a net
abbrev pub words_on : ℕ → List (List ℕ) → List Word → List Bit
words_on net (nets ∷ ports) (word ∷ words) = bits_on net nets word ++ words_on net ports words
words_on net _ _ = []

-- the bits that drive a net: outputs of parts, input pins, clocks
abbrev pub drivers_of : Circuit → Stimulus → List Instant → ℕ → List Bit
drivers_of c s past net =
    flat_map (λ (p : Numbered). words_on net (map (λ (port : Port). port.nets) p.1.outputs) (output_words past p)) (numbered_parts c)
    ++ words_on net c.pins s.words
    ++ bits_on net c.clocks (replicate (length c.clocks) s.clock)

-- the bits that a net is pulled to
abbrev pub pulls_of : Circuit → ℕ → List Bit
pulls_of c net = map (λ (p : ℕ × Bit). p.1) (filter (λ (p : ℕ × Bit). p.0 == net) c.pulls)

-- the one, or the other where that is unknown
abbrev pub or_else : Bit → Bit → Bit
or_else Zero pulled = Zero
or_else One pulled = One
or_else Error pulled = Error
or_else Unknown pulled = pulled

-- a net bit is the join of its drivers and, where that join is unknown, of its pulls
abbrev pub net_bit : Circuit → Stimulus → List Instant → ℕ → Bit
net_bit c s past net = or_else (join_of_drivers (drivers_of c s past net)) (join_of_drivers (pulls_of c net))

-- a part's state: a step from the last state and inputs; at first from `start` and unknown inputs
abbrev pub next_state : List Instant → (ℕ → Bit) → Numbered → List Word
next_state [] nets p = p.1.step p.1.start (unknown_words p.1.inputs) (input_words nets p.1)
next_state (last ∷ past) nets p = p.1.step (state_of last p.0) (input_words last.nets p.1) (input_words nets p.1)

-- the instant after these
abbrev pub next : Circuit → Stimulus → List Instant → Instant
next c s past = record { nets = net_bit c s past; states = map (next_state past (net_bit c s past)) (numbered_parts c) }

-- nothing on any pin
abbrev pub silence : Stimulus
silence = record { from = 0; words = []; clock = Unknown }

-- the stimulus at an instant: the last in the list of those that stand at it or before
abbrev pub in_force : List Stimulus → ℕ → Stimulus
in_force stimuli t = fold (λ (s later : Stimulus). if nat_le later.from t then later else s) silence stimuli

-- the first instants, of which the newest is the first
unfoldable pub timeline : Circuit → List Stimulus → ℕ → List Instant
timeline c stimuli zero = []
timeline c stimuli (suc t) = next c (in_force stimuli t) (timeline c stimuli t) ∷ timeline c stimuli t

abbrev pub instant_at : Circuit → List Stimulus → ℕ → Instant
instant_at c stimuli t = next c (in_force stimuli t) (timeline c stimuli t)

-- the value of a net at an instant
abbrev pub value_at : Circuit → List Stimulus → ℕ → ℕ → Bit
value_at c stimuli t net = (instant_at c stimuli t).nets net

-- the words on a part's outputs at an instant
abbrev pub outputs_at : Circuit → List Stimulus → ℕ → Numbered → List Word
outputs_at c stimuli t p = output_words (timeline c stimuli t) p
