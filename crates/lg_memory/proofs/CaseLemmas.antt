-- Tables of what inputs hold, in the cases that a first match leaves.
use Rattle.std.proofs.Common.{◌≡◌, ◌≢◌, ℕ, Bool, true, false, List, [], ◌∷◌, length, get_or, map, refl, Some}
use Rattle.std.specs.Prelude.{slice_get}
use Rattle.lg_value.specs.declared.bit.Bit.{Bit}
use Rattle.lg_value.specs.declared.bit.Bit.TheVariants.{Zero, One}
use Rattle.lg_memory.specs.Inputs.{Word, word_at}
use Rattle.lg_memory.specs.Counter.{loads_or_counts}
use Rattle.lg_memory.specs.Register.{registered}
use Rattle.lg_memory.specs.declared.form.StateForm.{StateForm}
use Rattle.lg_memory.specs.Controls.{event_of}
use Rattle.lg_memory.specs.Step.{start_words, triggered_words, words_after}

-- a counter that does not load and is enabled counts
pub loads_or_counts-counts : (ld en : Bit) (d held next : Word) → ld ≢ One → en ≢ Zero → loads_or_counts ld en d held next ≡ next
loads_or_counts-counts One en d held next off on = absurd (off refl)
loads_or_counts-counts _ Zero d held next off on = absurd (on refl)
loads_or_counts-counts _ _ d held next off on = refl

-- what holds of the word that is loaded, of the one that is held and of the next one
pub loads_or_counts-any : (P : Word → Type 0) (ld en : Bit) (d held next : Word) → P d → P held → P next → P (loads_or_counts ld en d held next)
loads_or_counts-any P One en d held next loaded kept counts = loaded
loads_or_counts-any P _ Zero d held next loaded kept counts = kept
loads_or_counts-any P _ _ d held next loaded kept counts = counts

-- what holds of the word that is held and of the data
pub registered-any : (P : Word → Type 0) (held d : Word) (en : Bit) → P held → P d → P (registered held d en)
registered-any P held d Zero kept stored = kept
registered-any P held d _ kept stored = stored

-- what holds of the words of the start, of a preset, of a trigger and of a rest
pub words_after-any : (P : List Word → Type 0) (clear preset now : Bool) (form : StateForm) (words new : List Word) → P (start_words form) → (preset ≡ true → P ((One ∷ []) ∷ [])) → P (triggered_words form words new) → P words → P (words_after (event_of clear preset now) form words new)
words_after-any P true preset now form words new start set triggered rest = start
words_after-any P false true now form words new start set triggered rest = set refl
words_after-any P false false true form words new start set triggered rest = triggered
words_after-any P false false false form words new start set triggered rest = rest

-- a word of one bit is that bit's
pub map-one_bit : (f : Bit → Bit) (word : Word) (b : Bit) → length word ≡ 1 → slice_get word 0 ≡ Some b → map f word ≡ f b ∷ []
map-one_bit f [] b short first = absurd (cc short)
map-one_bit f (x ∷ []) b short first = let same : x ≡ b = cc first in rw same refl
map-one_bit f (x ∷ y ∷ more) b short first = absurd (cc short)

-- the first of some inputs, as it is read
pub word_at_first : (inputs : List Word) (w : ℕ) (widths : List ℕ) (x : Word) → map length inputs ≡ w ∷ widths → x ≡ get_or inputs 0 x → x ≡ word_at inputs 0
word_at_first [] w widths x fits read = absurd (cc fits)
word_at_first (i ∷ inputs) w widths x fits read = read
