-- The steps of the loops that join drivers.
use Rattle.std.proofs.Common.{◌≡◌, ℕ, ◌+◌, ◌<◌, ◌≤◌, ◌==◌, List, [], ◌∷◌, ◌++◌, length, fold, drop, get_or, map, replicate, sym, ◌∙◌, ap, refl, if◌then◌else◌}
use Rattle.std.proofs.lemmas.List.{at_drop_more, at_drop_all}
use Rattle.std.proofs.lemmas.List.Sums.{fold-append}
use Rattle.lg_value.specs.declared.bit.Bit.{Bit}
use Rattle.lg_value.specs.declared.bit.Bit.TheVariants.{Zero, One, Unknown, Error}
use Rattle.lg_value.specs.Bit.{join_bits}
use Rattle.lg_value.specs.Drivers.{joined_in_turn}
use Rattle.lg_timing.specs.Circuit.{Word, Port, Part, Circuit, Stimulus}
use Rattle.lg_timing.specs.Instant.{bits_on, words_on, or_else}
use Rattle.lg_instants.specs.Plain.{parts_on, drivers_from}

pub bits_on-no_word : (net : ℕ) (nets : List ℕ) → bits_on net nets [] ≡ []
bits_on-no_word net [] = refl
bits_on-no_word net (n ∷ nets) = refl

pub words_on-no_word : (net : ℕ) (ports : List (List ℕ)) → words_on net ports [] ≡ []
words_on-no_word net [] = refl
words_on-no_word net (n ∷ ports) = refl

pub parts_on-no_word : (net : ℕ) (parts : List Part) → parts_on net parts [] ≡ []
parts_on-no_word net [] = refl
parts_on-no_word net (n ∷ parts) = refl

-- past the word's end nothing is left to join
pub bits_on-past : (bit : Bit) (net i : ℕ) (nets : List ℕ) (word : Word) → length word ≤ i → fold join_bits bit (bits_on net nets (drop i word)) ≡ bit
bits_on-past bit net i nets word h =
    at_drop_all (λ (w : Word). fold join_bits bit (bits_on net nets w)) word i h ∙ ap (fold join_bits bit) (bits_on-no_word net nets)

pub words_on-past : (bit : Bit) (net i : ℕ) (ports : List (List ℕ)) (words : List Word) → length words ≤ i → fold join_bits bit (words_on net ports (drop i words)) ≡ bit
words_on-past bit net i ports words h =
    at_drop_all (λ (w : List Word). fold join_bits bit (words_on net ports w)) words i h ∙ ap (fold join_bits bit) (words_on-no_word net ports)

pub parts_on-past : (bit : Bit) (net i : ℕ) (parts : List Part) (outputs : List (List Word)) → length outputs ≤ i → fold join_bits bit (parts_on net parts (drop i outputs)) ≡ bit
parts_on-past bit net i parts outputs h =
    at_drop_all (λ (w : List (List Word)). fold join_bits bit (parts_on net parts w)) outputs i h ∙ ap (fold join_bits bit) (parts_on-no_word net parts)

-- one bit more
pub bits_on-more : (net i : ℕ) (nets : List ℕ) (word : Word) → i < length nets → i < length word
    → bits_on net (drop i nets) (drop i word)
    ≡ (if get_or nets i 0 == net then get_or word i Unknown ∷ bits_on net (drop (i + 1) nets) (drop (i + 1) word) else bits_on net (drop (i + 1) nets) (drop (i + 1) word))
bits_on-more net i nets word h k =
    at_drop_more (λ (n : List ℕ). bits_on net n (drop i word)) nets i 0 h
    ∙ at_drop_more (λ (w : Word). bits_on net (get_or nets i 0 ∷ drop (i + 1) nets) w) word i Unknown k

pub words_on-more : (net i : ℕ) (ports : List (List ℕ)) (words : List Word) → i < length ports → i < length words
    → words_on net (drop i ports) (drop i words)
    ≡ bits_on net (get_or ports i []) (get_or words i []) ++ words_on net (drop (i + 1) ports) (drop (i + 1) words)
words_on-more net i ports words h k =
    at_drop_more (λ (n : List (List ℕ)). words_on net n (drop i words)) ports i [] h
    ∙ at_drop_more (λ (w : List Word). words_on net (get_or ports i [] ∷ drop (i + 1) ports) w) words i [] k

pub parts_on-more : {P : Type 0} (meaning : P → Part) (bit : Bit) (net i : ℕ) (parts : List P) (outputs : List (List Word)) (part : P) (words : List Word)
    → part ≡ get_or parts i part → words ≡ get_or outputs i words → i < length parts → i < length outputs
    → fold join_bits bit (parts_on net (map meaning (drop i parts)) (drop i outputs))
    ≡ fold join_bits (fold join_bits bit (words_on net (map (λ (port : Port). port.nets) (meaning part).outputs) words)) (parts_on net (map meaning (drop (i + 1) parts)) (drop (i + 1) outputs))
parts_on-more {P} meaning bit net i parts outputs part words p w h k =
    ap (fold join_bits bit)
    (at_drop_more (λ (l : List P). parts_on net (map meaning l) (drop i outputs)) parts i part h
    ∙ at_drop_more (λ (l : List (List Word)). parts_on net (map meaning (get_or parts i part ∷ drop (i + 1) parts)) l) outputs i words k
    ∙ ap (λ (q : P). parts_on net (map meaning (q ∷ drop (i + 1) parts)) (get_or outputs i words ∷ drop (i + 1) outputs)) (sym p)
    ∙ ap (λ (q : List Word). parts_on net (map meaning (part ∷ drop (i + 1) parts)) (q ∷ drop (i + 1) outputs)) (sym w))
    ∙ fold-append join_bits bit (words_on net (map (λ (port : Port). port.nets) (meaning part).outputs) words) (parts_on net (map meaning (drop (i + 1) parts)) (drop (i + 1) outputs))

-- what drives a net is the join of its parts, pins and clocks in turn
pub driven_in_turn : (c : Circuit) (s : Stimulus) (outputs : List (List Word)) (net : ℕ) (parts pins driven : Bit)
    → parts ≡ fold join_bits Unknown (parts_on net c.parts outputs)
    → pins ≡ fold join_bits parts (words_on net c.pins s.words)
    → driven ≡ fold join_bits pins (bits_on net c.clocks (replicate (length c.clocks) s.clock))
    → driven ≡ joined_in_turn (drivers_from c s outputs net)
driven_in_turn c s outputs net parts pins driven p q r =
    let a = parts_on net c.parts outputs in
    let b = words_on net c.pins s.words in
    let d = bits_on net c.clocks (replicate (length c.clocks) s.clock) in
    r ∙ ap (λ (x : Bit). fold join_bits x d) (q ∙ ap (λ (x : Bit). fold join_bits x b) p)
    ∙ sym (fold-append join_bits Unknown (a ++ b) d ∙ ap (λ (x : Bit). fold join_bits x d) (fold-append join_bits Unknown a b))

pub or_else-known : (a b : Bit) → (a ≡ Unknown → ⊥) → or_else a b ≡ a
or_else-known Zero b h = refl
or_else-known One b h = refl
or_else-known Error b h = refl
or_else-known Unknown b h = absurd (h refl)
