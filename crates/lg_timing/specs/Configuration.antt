-- What an instant leaves to the later ones, and the one that comes of it with the next stimulus alone.
-- Source: the Logisim-evolution user guide, Value propagation, with transport delays by this project's choice.
use Rattle.std.specs.Prelude.{◌≡◌, ℕ, zero, suc, ◌+◌, ◌-◌, ◌≤◌, List, [], ◌∷◌, ◌++◌, length, map, drop, replicate, slice_get, slice_index_or, All}
use Rattle.std.specs.List.{flat_map}
use Rattle.lg_value.specs.declared.bit.Bit.{Bit}
use Rattle.lg_value.specs.Drivers.{join_of_drivers}
use Rattle.lg_timing.specs.Circuit.{Word, Port, Part, Circuit, Stimulus}
use Rattle.lg_timing.specs.Instant.{Instant, Numbered, numbered_parts, answered, unknown_words, input_words, words_on, bits_on, pulls_of, or_else, in_force, timeline, instant_at, outputs_at}

-- the words on the pins and the bit on the clocks, and for each part its state, what it shows, and what it is to show at each
-- of the next instants up to its delay
pub record Configuration : Type 0 where
  pub words : List Word
  pub clock : Bit
  pub states : List (List Word)
  pub shown : List (List Word)
  pub due : List (List (List Word))

-- what a part is to show at so many next instants: its answers to the last so many of these instants, the oldest first
abbrev pub due_words : List Instant → Numbered → ℕ → List (List Word)
due_words past p zero = []
due_words past p (suc n) = answered p (slice_get past n) ∷ due_words past p n

-- the configuration at an instant
abbrev pub configuration_at : Circuit → List Stimulus → ℕ → Configuration
configuration_at c stimuli t = record {
  words = (in_force stimuli t).words;
  clock = (in_force stimuli t).clock;
  states = (instant_at c stimuli t).states;
  shown = map (outputs_at c stimuli t) (numbered_parts c);
  due = map (λ (p : Numbered). due_words (timeline c stimuli (suc t)) p p.1.delay) (numbered_parts c);
}

-- the bits that drive a net where each part shows these words
abbrev pub drivers_shown : Circuit → Stimulus → List (List Word) → ℕ → List Bit
drivers_shown c s shown net =
    flat_map (λ (p : Numbered). words_on net (map (λ (port : Port). port.nets) p.1.outputs) (slice_index_or shown p.0 [])) (numbered_parts c)
    ++ words_on net c.pins s.words
    ++ bits_on net c.clocks (replicate (length c.clocks) s.clock)

-- the value of each net where each part shows these words
abbrev pub nets_shown : Circuit → Stimulus → List (List Word) → ℕ → Bit
nets_shown c s shown net = or_else (join_of_drivers (drivers_shown c s shown net)) (join_of_drivers (pulls_of c net))

-- the stimulus of a configuration, which is in force while it stays
abbrev pub stimulus_of : Configuration → Stimulus
stimulus_of k = record { from = 0; words = k.words; clock = k.clock }

-- the value of each net in a configuration
abbrev pub nets_of : Circuit → Configuration → ℕ → Bit
nets_of c k = nets_shown c (stimulus_of k) k.shown

-- The configuration in which the parts show these words under a stimulus: each part has stepped to its inputs, and its answer
-- to them is due last, behind what is due already.
abbrev pub stepped : Circuit → Stimulus → List (List Word) → (Numbered → List Word → List Word) → (Numbered → List (List Word)) → Configuration
stepped c s shown step already = record {
  words = s.words;
  clock = s.clock;
  states = map (λ (p : Numbered). step p (input_words (nets_shown c s shown) p.1)) (numbered_parts c);
  shown = shown;
  due = map (λ (p : Numbered). already p ++ p.1.out (step p (input_words (nets_shown c s shown) p.1)) (input_words (nets_shown c s shown) p.1) ∷ []) (numbered_parts c);
}

-- the configuration at instant 0: nothing has been answered yet
abbrev pub first : Circuit → Stimulus → Configuration
first c s =
    stepped c s (map (λ (p : Numbered). unknown_words p.1.outputs) (numbered_parts c))
    (λ p now. p.1.step p.1.start (unknown_words p.1.inputs) now)
    (λ p. replicate (p.1.delay - 1) (unknown_words p.1.outputs))

-- what is due of a part in a configuration
abbrev pub due_of : Configuration → Numbered → List (List Word)
due_of k p = slice_index_or k.due p.0 []

-- The next configuration under a stimulus: what is due first is shown.
abbrev pub next : Circuit → Stimulus → Configuration → Configuration
next c s k =
    stepped c s (map (λ (p : Numbered). slice_index_or (due_of k p) 0 []) (numbered_parts c))
    (λ p now. p.1.step (slice_index_or k.states p.0 []) (input_words (nets_of c k) p.1) now)
    (λ p. drop 1 (due_of k p))

-- the configuration so many instants after one that stands at an instant
unfoldable pub going_on : Circuit → List Stimulus → ℕ → Configuration → ℕ → Configuration
going_on c stimuli t k zero = k
going_on c stimuli t k (suc n) = next c (in_force stimuli (t + suc n)) (going_on c stimuli t k n)

-- the same while its own stimulus stays
unfoldable pub staying : Circuit → Configuration → ℕ → Configuration
staying c k zero = k
staying c k (suc n) = next c (stimulus_of k) (staying c k n)

-- all that is due of each part is what it shows
abbrev pub IsStill : Circuit → Configuration → Type 0
IsStill c k = All (λ (p : Numbered). All (λ (words : List Word). words ≡ slice_index_or k.shown p.0 []) (due_of k p)) (numbered_parts c)

-- At rest: what is due is what is shown, and that goes on as long as the stimulus does.
pub record IsAtRest (c : Circuit) (k : Configuration) : Type 0 where
  pub still : IsStill c k
  pub quiet : (n : ℕ) → (staying c k n).shown ≡ k.shown

-- each part has a delay
abbrev pub HaveDelays : Circuit → Type 0
HaveDelays c = All (λ (p : Part). 1 ≤ p.delay) c.parts

-- stimuli so many instants later
abbrev pub shifted : ℕ → List Stimulus → List Stimulus
shifted later stimuli = map (λ (s : Stimulus). record { from = s.from + later; words = s.words; clock = s.clock }) stimuli

-- two stimuli put the same on pins and clocks
pub record SamePut (a b : Stimulus) : Type 0 where
  pub words : a.words ≡ b.words
  pub clock : a.clock ≡ b.clock
