-- What the attached inputs of a gate hold at one place.
use Rattle.std.proofs.Common.{◌≡◌, ℕ, ◌+◌, ◌<◌, Bool, true, false, cond, List, [], ◌∷◌, ◌++◌, Option, None, Some, length, get_or, take, map, sym, refl, ap, ◌∙◌, append-nil}
use Rattle.std.specs.Prelude.{replicate}
use Rattle.std.specs.List.{range_with_len}
use Rattle.std.proofs.lemmas.List.FromFn.{fill_by_all}
use Rattle.std.proofs.lemmas.List.{take_more, map-append}
use Rattle.std.proofs.lemmas.List.Elements.{filter_map-append}
use Rattle.std.proofs.lemmas.List.Sums.{sum_by-cons}
use Rattle.lg_value.specs.declared.bit.Bit.{Bit}
use Rattle.lg_value.specs.declared.bit.Bit.TheVariants.{One, Unknown, Error}
use Rattle.lg_value.specs.Bit.{same_bit}
use Rattle.lg_gates.specs.Gate.{ones, gate_bit, attached, bits_at, lacks_inputs, gate_word}
use Rattle.lg_gates.specs.declared.gates.GateKind.{GateKind}

-- the bits at one place of the attached ones among some inputs
abbrev pub seen : ℕ → List (Option (List Bit)) → List Bit
seen place inputs = bits_at place (attached inputs)

seen_push : (place : ℕ) (inputs : List (Option (List Bit))) (input : Option (List Bit)) → seen place (inputs ++ input ∷ []) ≡ seen place inputs ++ seen place (input ∷ [])
seen_push place inputs input =
    ap (bits_at place) (filter_map-append (λ (o : Option (List Bit)). o) inputs (input ∷ []))
    ∙ map-append (λ (word : List Bit). get_or word place Unknown) (attached inputs) (attached (input ∷ []))

seen_more : (place : ℕ) (inputs : List (Option (List Bit))) (i : ℕ) (input : Option (List Bit)) → i < length inputs → get_or inputs i None ≡ input → seen place (take (i + 1) inputs) ≡ seen place (take i inputs) ++ seen place (input ∷ [])
seen_more place inputs i input inside is =
    ap (seen place) (take_more inputs i None inside ∙ ap (λ (o : Option (List Bit)). take i inputs ++ o ∷ []) is)
    ∙ seen_push place (take i inputs) input

-- an unattached input adds nothing
pub seen_none : (place : ℕ) (inputs : List (Option (List Bit))) (i : ℕ) → i < length inputs → get_or inputs i None ≡ None → seen place (take (i + 1) inputs) ≡ seen place (take i inputs)
seen_none place inputs i inside is =
    seen_more place inputs i None inside is ∙ append-nil (seen place (take i inputs))

-- an attached one adds its bit
pub seen_some : (place : ℕ) (inputs : List (Option (List Bit))) (i : ℕ) (word : List Bit) → i < length inputs → get_or inputs i None ≡ Some word → seen place (take (i + 1) inputs) ≡ seen place (take i inputs) ++ get_or word place Unknown ∷ []
seen_some place inputs i word inside is = seen_more place inputs i (Some word) inside is

pub counts : (b : Bit) (bits : List Bit) → ones (b ∷ bits) ≡ cond (same_bit One b) 1 0 + ones bits
counts b bits = sum_by-cons (λ (x : Bit). cond (same_bit One x) 1 0) b bits

pub gate_word-lacking : (kind : GateKind) (width : ℕ) (inputs : List (Option (List Bit))) (strict : Bool) → lacks_inputs strict inputs ≡ true → gate_word kind width inputs strict ≡ replicate width Error
unfolding gate_word
gate_word-lacking kind width inputs strict lacking = rw lacking refl

pub gate_word-served : (kind : GateKind) (width : ℕ) (inputs : List (Option (List Bit))) (strict : Bool) → lacks_inputs strict inputs ≡ false → gate_word kind width inputs strict ≡ map (λ place. gate_bit kind (seen place inputs)) (range_with_len 0 width)
unfolding gate_word
gate_word-served kind width inputs strict served = rw served refl

-- a word with the gate's bit at each place is the gate's word
pub gate_word-filled : (kind : GateKind) (width : ℕ) (inputs : List (Option (List Bit))) (strict : Bool) (word : List Bit) → lacks_inputs strict inputs ≡ false → length word ≡ width → ((k : ℕ) → k < width → get_or word k Unknown ≡ gate_bit kind (seen k inputs)) → word ≡ gate_word kind width inputs strict
gate_word-filled kind width inputs strict word served wide filled =
    fill_by_all (λ place. gate_bit kind (seen place inputs)) word width Unknown wide filled
    ∙ sym (gate_word-served kind width inputs strict served)

-- what a gate answers to attached inputs where unattached ones are ignored
abbrev pub loose_word : GateKind → ℕ → List (List Bit) → List Bit
loose_word kind width [] = replicate width Error
loose_word kind width (first ∷ others) = map (λ place. gate_bit kind (bits_at place (first ∷ others))) (range_with_len 0 width)

-- without the "error" option the attached inputs alone count
pub gate_word-loose : (kind : GateKind) (width : ℕ) (inputs : List (Option (List Bit))) → gate_word kind width inputs false ≡ loose_word kind width (attached inputs)
unfolding gate_word
gate_word-loose kind width [] = refl
gate_word-loose kind width (None ∷ inputs) = gate_word-loose kind width inputs
gate_word-loose kind width (Some word ∷ inputs) = refl
