-- Whether a word is a value of a width can be told.
use Rattle.std.proofs.Common.{◌≡◌, ℕ, ◌+◌, ◌-◌, ◌/◌, ◌^◌, ◌<◌, ◌≤◌, true, List, ◌++◌, length, drop, refl, sym, ap, subst, ◌∙◌, inl, inr}
use lib.Seq.{drop-append_seam}
use Rattle.std.specs.Prelude.{codes}
use Rattle.std.specs.List.{All}
use Rattle.std.proofs.lemmas.List.{append_cancel_left}
use Rattle.lg_text.proofs.Deciding.{Decided, SomeOrNone, both, either, passes, at_most, below, equal, same_text, each}
use Rattle.lg_vectors.specs.Values.{digit_value, is_digit, number_from, free_from, cared_but, AreDigits, AreCounted, IsMarked, IsPrefixed, IsBinary, AreDecimals, IsPositive, IsSubtracted, IsNegative, IsDecimal, IsValue}

digits_or_not : (size width : ℕ) (text : List ℕ) → SomeOrNone (AreDigits size width text)
digits_or_not size width text = by (both (each (λ c. is_digit size c ≡ true) (λ c. passes (is_digit size c)) text) (below (number_from (2 ^ size) 0 text) (2 ^ width)))
  where
    by : Decided (All (λ c. is_digit size c ≡ true) text × (number_from (2 ^ size) 0 text < 2 ^ width)) → SomeOrNone (AreDigits size width text)
    by (inl h) = inl (cared_but width (number_from (2 ^ size) 0 text) (free_from size 0 text), record { digits = h.0; fits = h.1; same = refl })
    by (inr never) = inr (λ value h. never (h.digits, h.fits))

counted_or_not : (size width : ℕ) (text : List ℕ) → SomeOrNone (AreCounted size width text)
counted_or_not size width text = by (both (at_most 1 (length text)) (at_most (length text) ((width + size - 1) / size))) (digits_or_not size width text)
  where
    by : Decided ((1 ≤ length text) × (length text ≤ (width + size - 1) / size)) → SomeOrNone (AreDigits size width text) → SomeOrNone (AreCounted size width text)
    by (inl h) (inl d) = inl (d.0, record { some = h.0; few = h.1; are_digits = d.1 })
    by (inr never) d = inr (λ value h. never (h.some, h.few))
    by (inl h) (inr never) = inr (λ value h. never value h.are_digits)

-- what stands behind a mark
behind : (mark word text : List ℕ) → word ≡ mark ++ drop (length mark) word → word ≡ mark ++ text → text ≡ drop (length mark) word
behind mark word text opens e = append_cancel_left mark text (drop (length mark) word) (sym e ∙ opens)

opens_with : (mark word text : List ℕ) → word ≡ mark ++ text → word ≡ mark ++ drop (length mark) word
opens_with mark word text e = e ∙ ap (λ (rest : List ℕ). mark ++ rest) (sym (ap (drop (length mark)) e ∙ drop-append_seam mark text))

marked_or_not : (mark : List ℕ) (size width : ℕ) (word : List ℕ) → SomeOrNone (IsMarked mark size width word)
marked_or_not mark size width word = by (same_text word (mark ++ drop (length mark) word)) (counted_or_not size width (drop (length mark) word))
  where
    by : Decided (word ≡ mark ++ drop (length mark) word) → SomeOrNone (AreCounted size width (drop (length mark) word)) → SomeOrNone (IsMarked mark size width word)
    by (inl e) (inl c) = inl (c.0, (drop (length mark) word, e, c.1))
    by (inl e) (inr never) = inr (λ value m. never value (subst (λ (t : List ℕ). AreCounted size width t value) (behind mark word m.0 e m.1) m.2))
    by (inr never) c = inr (λ value m. never (opens_with mark word m.0 m.1))

prefixed_or_not : (width : ℕ) (word : List ℕ) → SomeOrNone (IsPrefixed width word)
prefixed_or_not width word = either (marked_or_not (codes "0x") 4 width word) (marked_or_not (codes "0o") 3 width word)

binary_or_not : (width : ℕ) (word : List ℕ) → SomeOrNone (IsBinary width word)
binary_or_not width word = by (equal (length word) width) (digits_or_not 1 width word)
  where
    by : Decided (length word ≡ width) → SomeOrNone (AreDigits 1 width word) → SomeOrNone (IsBinary width word)
    by (inl e) (inl d) = inl (d.0, record { count = e; are_digits = d.1 })
    by (inr never) d = inr (λ value h. never h.count)
    by (inl e) (inr never) = inr (λ value h. never value h.are_digits)

abbrev decimal_number : List ℕ → ℕ
decimal_number text = number_from 10 0 text

decimals_or_not : (width : ℕ) (text : List ℕ) → Decided (AreDecimals width text (decimal_number text))
decimals_or_not width text = by (both (both (at_most 1 (length text)) (at_most (length text + 1) width)) (each (λ c. digit_value c < 10) (λ c. below (digit_value c) 10) text))
  where
    by : Decided (((1 ≤ length text) × (length text + 1 ≤ width)) × All (λ c. digit_value c < 10) text) → Decided (AreDecimals width text (decimal_number text))
    by (inl h) = inl (record { some = h.0.0; few = h.0.1; digits = h.1; same = refl })
    by (inr never) = inr (λ h. never ((h.some, h.few), h.digits))

-- decimals are those of their own number
own : (width number : ℕ) (text : List ℕ) → AreDecimals width text number → AreDecimals width text (decimal_number text)
own width number text h = subst (λ n. AreDecimals width text n) h.same h

positive_or_not : (width : ℕ) (word : List ℕ) → SomeOrNone (IsPositive width word)
positive_or_not width word = by (both (decimals_or_not width word) (below (decimal_number word) (2 ^ width)))
  where
    by : Decided (AreDecimals width word (decimal_number word) × (decimal_number word < 2 ^ width)) → SomeOrNone (IsPositive width word)
    by (inl h) = inl (cared_but width (decimal_number word) 0, record { number = decimal_number word; decimals = h.0; fits = h.1; same = refl })
    by (inr never) = inr (λ value p. never (own width p.number word p.decimals, subst (λ n. n < 2 ^ width) p.decimals.same p.fits))

subtracted_or_not : (width : ℕ) (text : List ℕ) → SomeOrNone (IsSubtracted width text)
subtracted_or_not width text = by (both (decimals_or_not width text) (at_most (decimal_number text) (2 ^ (width - 1))))
  where
    by : Decided (AreDecimals width text (decimal_number text) × (decimal_number text ≤ 2 ^ (width - 1))) → SomeOrNone (IsSubtracted width text)
    by (inl h) = inl (cared_but width (2 ^ width - decimal_number text) 0, record { number = decimal_number text; decimals = h.0; fits = h.1; same = refl })
    by (inr never) = inr (λ value s. never (own width s.number text s.decimals, subst (λ n. n ≤ 2 ^ (width - 1)) s.decimals.same s.fits))

negative_or_not : (width : ℕ) (word : List ℕ) → SomeOrNone (IsNegative width word)
negative_or_not width word = by (same_text word (sign ++ drop (length sign) word)) (subtracted_or_not width (drop (length sign) word))
  where
    sign : List ℕ
    sign = codes "-"

    by : Decided (word ≡ sign ++ drop (length sign) word) → SomeOrNone (IsSubtracted width (drop (length sign) word)) → SomeOrNone (IsNegative width word)
    by (inl e) (inl s) = inl (s.0, (drop (length sign) word, e, s.1))
    by (inl e) (inr never) = inr (λ value n. never value (subst (λ (t : List ℕ). IsSubtracted width t value) (behind sign word n.0 e n.1) n.2))
    by (inr never) s = inr (λ value n. never (opens_with sign word n.0 n.1))

-- a word is a value of a width, or none
pub value_or_not : (width : ℕ) (word : List ℕ) → SomeOrNone (IsValue width word)
value_or_not width word = by (prefixed_or_not width word) (binary_or_not width word) (either (positive_or_not width word) (negative_or_not width word))
  where
    by : SomeOrNone (IsPrefixed width word) → SomeOrNone (IsBinary width word) → SomeOrNone (IsDecimal width word) → SomeOrNone (IsValue width word)
    by (inl p) b d = inl (p.0, inl p.1)
    by (inr never) (inl b) d = inl (b.0, inr (inl (never, b.1)))
    by (inr never) (inr none) (inl d) = inl (d.0, inr (inr (never, none, d.1)))
    by (inr never) (inr none) (inr neither) = inr (λ value h. elim h [
      | inl p ↦ never value p
      | inr (inl b) ↦ none value b.1
      | inr (inr d) ↦ neither value d.2
    ])
