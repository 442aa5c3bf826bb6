-- An instant that is not busy leaves each part's output words as they were, and so what drives each net.
use Rattle.std.proofs.Common.{◌≡◌, ℕ, suc, false, List, [], ◌∷◌, map, get_or, refl}
use Rattle.std.specs.Prelude.{not, All}
use Rattle.std.specs.Bool.{Decides}
use Rattle.std.specs.List.{list_any, flat_map}
use Rattle.std.proofs.lemmas.Bool.{not-false, not_from_true, or_parts}
use Rattle.std.proofs.lemmas.List.Elements.{All-nil, All-cons, All-head, All-tail}
use Rattle.std.proofs.lemmas.List.Folds.{list_any_none}
use Rattle.std.proofs.lemmas.Slice.Eq.{slice_eq-Decides}
use Rattle.lg_value.proofs.WordLemmas.{Decides-same_word}
use Rattle.lg_timing.specs.Circuit.{Word, Port, Circuit, Stimulus}
use Rattle.lg_timing.specs.Instant.{Numbered, Instant, numbered_parts, outputs_at, output_words, words_on, net_bit}
use Rattle.lg_timing.specs.Settling.{same_words, is_busy}

-- two answers agree for each of some parts
abbrev pub Agree : (Numbered → List Word) → (Numbered → List Word) → List Numbered → Type 0
Agree f g parts = All (λ (p : Numbered). f p ≡ g p) parts

-- no part's output words change from one instant to another
abbrev pub SameOutputs : Circuit → List Stimulus → ℕ → ℕ → Type 0
SameOutputs c stimuli a b = Agree (outputs_at c stimuli a) (outputs_at c stimuli b) (numbered_parts c)

pub Decides-same_words : (a b : List Word) → Decides (same_words a b) (a ≡ b)
Decides-same_words a b = slice_eq-Decides Decides-same_word a b (same_words a b) refl

Agree-from_none : (f g : Numbered → List Word) (parts : List Numbered) → list_any (λ (p : Numbered). not (same_words (f p) (g p))) parts ≡ false → Agree f g parts
Agree-from_none f g [] none = All-nil (λ (p : Numbered). f p ≡ g p)
Agree-from_none f g (p ∷ parts) none =
    let both = or_parts (not (same_words (f p) (g p))) (list_any (λ (q : Numbered). not (same_words (f q) (g q))) parts) none in
    All-cons (λ (q : Numbered). f q ≡ g q) p parts
    ((Decides-same_words (f p) (g p)).0 (not-false (same_words (f p) (g p)) both.0))
    (Agree-from_none f g parts both.1)

none_from_agree : (f g : Numbered → List Word) (parts : List Numbered) → Agree f g parts → list_any (λ (p : Numbered). not (same_words (f p) (g p))) parts ≡ false
none_from_agree f g parts same =
    list_any_none (λ (p : Numbered). not (same_words (f p) (g p))) parts
    (λ k d h. not_from_true _ ((Decides-same_words (f (get_or parts k d)) (g (get_or parts k d))).1 (same k d h)))

-- an instant that is not busy has the outputs of the one before
pub SameOutputs-from_quiet : (c : Circuit) (stimuli : List Stimulus) (t : ℕ) → is_busy c stimuli (suc t) ≡ false → SameOutputs c stimuli t (suc t)
SameOutputs-from_quiet c stimuli t quiet = Agree-from_none (outputs_at c stimuli t) (outputs_at c stimuli (suc t)) (numbered_parts c) quiet

-- and an instant that has the outputs of the one before is not busy
pub quiet_from_same : (c : Circuit) (stimuli : List Stimulus) (t : ℕ) → SameOutputs c stimuli t (suc t) → is_busy c stimuli (suc t) ≡ false
quiet_from_same c stimuli t same = none_from_agree (outputs_at c stimuli t) (outputs_at c stimuli (suc t)) (numbered_parts c) same

pub driven_alike : (net : ℕ) (f g : Numbered → List Word) (parts : List Numbered) → Agree f g parts → flat_map (λ (p : Numbered). words_on net (map (λ (port : Port). port.nets) p.1.outputs) (f p)) parts ≡ flat_map (λ (p : Numbered). words_on net (map (λ (port : Port). port.nets) p.1.outputs) (g p)) parts
driven_alike net f g [] same = refl
driven_alike net f g (p ∷ parts) same =
    let first : f p ≡ g p = All-head (λ (q : Numbered). f q ≡ g q) p parts same in
    let rest = driven_alike net f g parts (All-tail (λ (q : Numbered). f q ≡ g q) p parts same) in
    rw (first, rest) refl

-- the same outputs and the same stimulus give each net the same bit
pub net_bit_alike : (c : Circuit) (s : Stimulus) (past other : List Instant) (net : ℕ) → Agree (output_words past) (output_words other) (numbered_parts c) → net_bit c s past net ≡ net_bit c s other net
net_bit_alike c s past other net same =
    let driven = driven_alike net (output_words past) (output_words other) (numbered_parts c) same in
    rw driven refl
