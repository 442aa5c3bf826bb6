-- What plexers answer where their select is defined, and where it is not.
use Rattle.std.proofs.lemmas.Bool.{ne_eqb}
use Rattle.std.proofs.Common.{◌≡◌, ℕ, ◌*◌, true, false, List, [], ◌∷◌, get_or, refl, eq-eqb}
use Rattle.std.specs.Prelude.{replicate, length}
use Rattle.lg_value.specs.declared.bit.Bit.{Bit}
use Rattle.lg_value.specs.declared.bit.Bit.TheVariants.{Error}
use Rattle.lg_value.specs.Word.{number_of}
use Rattle.lg_gates.specs.Gate.{all_defined}
use Rattle.lg_gates.specs.Plexer.{first_width, pick_word, spread_word}
use Rattle.lg_gates.specs.Selector.{bits_from, group_word}

pub pick_word-defined : (select : List Bit) (items : List (List Bit)) → all_defined select ≡ true → pick_word select items ≡ get_or items (number_of select) []
unfolding pick_word
pick_word-defined select items h = rw h refl

pub pick_word-undefined : (select : List Bit) (items : List (List Bit)) → all_defined select ≡ false → pick_word select items ≡ replicate (first_width items) Error
unfolding pick_word
pick_word-undefined select items h = rw h refl

pub spread_word-undefined : (select input : List Bit) (place : ℕ) (off : Bit) → all_defined select ≡ false → spread_word select input place off ≡ replicate (length input) Error
unfolding spread_word
spread_word-undefined select input place off h = rw h refl

pub spread_word-selected : (select input : List Bit) (place : ℕ) (off : Bit) → all_defined select ≡ true → number_of select ≡ place → spread_word select input place off ≡ input
unfolding spread_word
spread_word-selected select input place off h k = rw (h, eq-eqb (number_of select) place k) refl

pub spread_word-other : (select input : List Bit) (place : ℕ) (off : Bit) → all_defined select ≡ true → (number_of select ≡ place → ⊥) → spread_word select input place off ≡ replicate (length input) off
unfolding spread_word
spread_word-other select input place off h k = rw (h, ne_eqb (number_of select) place k) refl

pub group_word-undefined : (input select : List Bit) (group : ℕ) → all_defined select ≡ false → group_word input select group ≡ replicate group Error
unfolding group_word
group_word-undefined input select group h = rw h refl

pub group_word-defined : (input select : List Bit) (group : ℕ) → all_defined select ≡ true → group_word input select group ≡ bits_from input (number_of select * group) group
unfolding group_word
group_word-defined input select group h = rw h refl

pub first_width-get_or : (words : List (List Bit)) → first_width words ≡ length (get_or words 0 [])
first_width-get_or [] = refl
first_width-get_or (first ∷ others) = refl
