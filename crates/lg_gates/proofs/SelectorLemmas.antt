-- Bits of a word from a place on.
use Rattle.std.proofs.Common.{◌≡◌, ℕ, ◌+◌, ◌-◌, ◌^◌, ◌<◌, ◌≤◌, min, List, ◌++◌, length, get_or, take, drop, replicate, sym, ap, ◌∙◌, arith, inl, inr}
use Rattle.std.proofs.lemmas.Bool.{cases_lt}
use Rattle.std.proofs.lemmas.List.{same_lists, get_or-take, get_or-drop, get_or_append_left, get_or-append-add, get_or-replicate, get_or_past, get_or_default, length-replicate, length-take-le, length-append, length-drop}
use Rattle.std.proofs.lemmas.List.FromFn.{length-map-range_with_len, get_or-map-range_with_len}
use Rattle.lg_value.specs.declared.bit.Bit.{Bit}
use Rattle.lg_value.specs.declared.bit.Bit.TheVariants.{Zero}
use Rattle.lg_gates.specs.Selector.{bits_from}

pub length-bits_from : (word : List Bit) (start count : ℕ) → length (bits_from word start count) ≡ count
length-bits_from word start count = length-map-range_with_len (λ place. get_or word place Zero) start count

-- a word that has at each place the bit that stands start places higher, or 0
bits_from_is : (word start_bits : List Bit) (start count : ℕ) → length start_bits ≡ count → ((k : ℕ) (d : Bit) → k < count → get_or start_bits k d ≡ get_or word (start + k) Zero) → start_bits ≡ bits_from word start count
bits_from_is word start_bits start count wide bits =
    same_lists start_bits (bits_from word start count) (wide ∙ sym (length-bits_from word start count))
    (λ k d h. let inside : k < count = omega arith in
    bits k d inside ∙ sym (get_or-map-range_with_len (λ place. get_or word place Zero) start count k (start + k) d inside (omega arith)))

-- past the end of the word there is nothing but 0
pub bits_from_past : (word : List Bit) (start count : ℕ) → length word ≤ start → replicate count Zero ≡ bits_from word start count
bits_from_past word start count past =
    bits_from_is word (replicate count Zero) start count (length-replicate count Zero)
    (λ k d h. get_or-replicate count k Zero d h ∙ sym (get_or_past word (start + k) Zero (omega arith)))

inside_bit : (word : List Bit) (start held k : ℕ) (d : Bit) → k < held → start + held ≤ length word → get_or (take held (drop start word)) k d ≡ get_or word (start + k) Zero
inside_bit word start held k d low inside =
    get_or-take held (drop start word) k d low ∙ get_or-drop start word k d ∙ get_or_default word (start + k) d Zero (omega arith)

length-inside : (word : List Bit) (start held : ℕ) → start + held ≤ length word → length (take held (drop start word)) ≡ held
length-inside word start held inside = length-take-le held (drop start word) (omega (arith, length-drop start word))

-- inside the word they are its bits
pub bits_from_inside : (word : List Bit) (start count : ℕ) → start + count ≤ length word → take count (drop start word) ≡ bits_from word start count
bits_from_inside word start count inside =
    bits_from_is word (take count (drop start word)) start count (length-inside word start count inside)
    (λ k d h. inside_bit word start count k d h inside)

-- over the end of the word they are its highest bits and zeros above
pub bits_from_over : (word : List Bit) (start held count : ℕ) → start + held ≡ length word → held ≤ count → take held (drop start word) ++ replicate (count - held) Zero ≡ bits_from word start count
bits_from_over word start held count ends over =
    let low = take held (drop start word) in
    let high = replicate (count - held) Zero in
    let wide : length low ≡ held = length-inside word start held (omega arith) in
    bits_from_is word (low ++ high) start count (omega (arith, length-append low high, length-replicate (count - held) Zero))
    (λ k d h. elim (cases_lt k held) [
      | inl inner ↦
          let short : k < length low = omega arith in
          get_or_append_left low high d k short ∙ inside_bit word start held k d inner (omega arith)
      | inr outer ↦
          let place : length low + (k - held) ≡ k = omega arith in
          ap (λ (n : ℕ). get_or (low ++ high) n d) (sym place) ∙ get_or-append-add low high (k - held) d
          ∙ get_or-replicate (count - held) (k - held) Zero d (omega arith) ∙ sym (get_or_past word (start + k) Zero (omega arith))
    ])

-- a start that is cut off at the greatest number of 64 bits gives the same
pub bits_from_cut_off : (word : List Bit) (start far count : ℕ) → length word ≤ 64 → far ≡ min start (2 ^ 64 - 1) → bits_from word far count ≡ bits_from word start count
bits_from_cut_off word start far count short cut =
    elim (cases_lt start (2 ^ 64)) [
      | inl fits ↦ let same : far ≡ start = omega arith in ap (λ (n : ℕ). bits_from word n count) same
      | inr past ↦ sym (bits_from_past word far count (omega arith)) ∙ bits_from_past word start count (omega arith)
    ]
