-- Whether an instant is busy, part by part.
use Rattle.std.proofs.Common.{◌≡◌, ℕ, ◌+◌, ◌<◌, ◌≤◌, Bool, true, false, List, [], length, get_or, take, take_all, sym, ap, ◌∙◌}
use Rattle.std.specs.Prelude.{◌||◌, not, slice_index_or}
use Rattle.std.specs.List.{list_any}
use Rattle.std.proofs.lemmas.List.{length-map}
use Rattle.std.proofs.lemmas.List.Folds.{list_any_at, list_any_more}
use Rattle.std.proofs.lemmas.List.FromFn.{length-enumerate_from}
use Rattle.lg_timing.specs.Circuit.{Word, Part, Circuit}
use Rattle.lg_timing.specs.Instant.{Numbered, numbered_parts}
use Rattle.lg_timing.specs.Settling.{same_words}
use Rattle.lg_timing.specs.Configuration.{Configuration}
use Rattle.lg_timing.specs.Staying.{shown_of, is_busy_between}
use Rattle.lg_instants.specs.declared.circuit.Circuit.{Circuit as Described}
use Rattle.lg_instants.specs.Plain.{circuit_of}
use Rattle.lg_instants.proofs.SteppingLemmas.{no_part, number_at}

-- whether a part shows another word
abbrev pub changes : Configuration → Configuration → Numbered → Bool
changes before now p = not (same_words (shown_of before p) (shown_of now p))

-- none of the first parts does
abbrev pub NoneBefore : Circuit → Configuration → Configuration → ℕ → Type 0
NoneBefore c before now i = list_any (changes before now) (take i (numbered_parts c)) ≡ false

numbered_inside : {P : Type 0} (meaning : P → Part) (c : Described P) (i : ℕ) → i < length c.parts.items → i < length (numbered_parts (circuit_of meaning c))
numbered_inside meaning c i inside = simp (length-enumerate_from, length-map) inside

changes_at : {P : Type 0} (meaning : P → Part) (c : Described P) (before now : Configuration) (i : ℕ) (was is : List Word) → i < length c.parts.items
    → was ≡ slice_index_or before.shown i [] → is ≡ slice_index_or now.shown i []
    → changes before now (get_or (numbered_parts (circuit_of meaning c)) i (i, no_part)) ≡ not (same_words was is)
changes_at meaning c before now i was is inside one other =
    ap (λ k. not (same_words (slice_index_or before.shown k []) (slice_index_or now.shown k []))) (number_at meaning c.parts.items i inside)
    ∙ ap (λ w. not (same_words w (slice_index_or now.shown i []))) (sym one)
    ∙ ap (λ w. not (same_words was w)) (sym other)

-- one that does makes it busy
pub busy-here : {P : Type 0} (meaning : P → Part) (c : Described P) (before now : Configuration) (i : ℕ) (was is : List Word) → i < length c.parts.items
    → was ≡ slice_index_or before.shown i [] → is ≡ slice_index_or now.shown i [] → not (same_words was is) ≡ true → is_busy_between (circuit_of meaning c) before now ≡ true
busy-here meaning c before now i was is inside one other differs =
    list_any_at (changes before now) (numbered_parts (circuit_of meaning c)) i (i, no_part) (numbered_inside meaning c i inside)
    (changes_at meaning c before now i was is inside one other ∙ differs)

-- one more that does not
pub none-more : {P : Type 0} (meaning : P → Part) (c : Described P) (before now : Configuration) (i : ℕ) (was is : List Word) → i < length c.parts.items
    → was ≡ slice_index_or before.shown i [] → is ≡ slice_index_or now.shown i [] → not (same_words was is) ≡ false
    → NoneBefore (circuit_of meaning c) before now i → NoneBefore (circuit_of meaning c) before now (i + 1)
none-more meaning c before now i was is inside one other same none =
    list_any_more (changes before now) (numbered_parts (circuit_of meaning c)) i (i, no_part) (numbered_inside meaning c i inside)
    ∙ ap (λ b. b || changes before now (get_or (numbered_parts (circuit_of meaning c)) i (i, no_part))) none
    ∙ changes_at meaning c before now i was is inside one other ∙ same

-- none of all
pub none-all : {P : Type 0} (meaning : P → Part) (c : Described P) (before now : Configuration) (i : ℕ) → length c.parts.items ≤ i
    → NoneBefore (circuit_of meaning c) before now i → is_busy_between (circuit_of meaning c) before now ≡ false
none-all meaning c before now i past none =
    let long : length (numbered_parts (circuit_of meaning c)) ≤ i = simp (length-enumerate_from, length-map) past in
    ap (list_any (changes before now)) (sym (take_all i (numbered_parts (circuit_of meaning c)) long)) ∙ none
