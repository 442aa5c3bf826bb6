-- Rows above one another.
use Rattle.std.proofs.Common.{◌≡◌, ℕ, ◌*◌, ◌/◌, ◌<◌, ◌≤◌, List, length, get_or, refl, sym, ap, ◌∙◌, subst, arith, inl, inr, Bool, true, false, replicate}
use Rattle.std.specs.Bool.{MatchBool}
use Rattle.std.proofs.lemmas.List.{get_or-replicate, length-replicate, get_or_past}
use Rattle.std.proofs.lemmas.Bool.{cases_lt, cases_eq}
use Rattle.lg_queue.specs.Row.{digit, Has, HasAdded, HasTaken, HasNoneIn, HasSomeIn, IsLeastIn, HasNone, IsLeast}
use Rattle.lg_queue.specs.declared.levels.Levels.{Levels}
use Rattle.lg_queue.specs.Levels.{IsSummary, AreLevels}
use Rattle.lg_queue.proofs.RowLemmas.{digit_past, digit_below, digit_of_zero}

-- a number of a row makes one in the row above
pub up : (below above : List ℕ) → IsSummary below above → (number : ℕ) → Has below number → Has above (number / 64)
up below above s number has = (s.has (number / 64)).1 (record { number = number; of_word = refl; has = has })

-- a number of a row shows in the row below
pub down : (below above : List ℕ) → IsSummary below above → (word : ℕ) → Has above word → HasSomeIn below word
down below above s word has = (s.has word).0 has

-- a number of a row lies within it
pub within : (words : List ℕ) (number : ℕ) → Has words number → number / 64 < length words
within words number has = elim (cases_lt (number / 64) (length words)) [
  | inl h ↦ h
  | inr past ↦ absurd (omega (arith, digit_past words number past, has))
]

-- the least number of the word that is least has no number before it
pub least_below : (below above : List ℕ) → IsSummary below above → (word number : ℕ) → IsLeast above word → IsLeastIn below word number → IsLeast below number
least_below below above s word number top low = record {
  has = low.has;
  least = λ other has. elim (cases_eq (other / 64) word) [
    | inl same ↦ low.least other same has
    | inr differ ↦ let first : word ≤ other / 64 = top.least (other / 64) (up below above s other has) in omega (arith, first, differ, low.of_word)
  ];
}

-- a row of one word
pub least_of_one : (words : List ℕ) (number : ℕ) → length words ≤ 1 → IsLeastIn words 0 number → IsLeast words number
least_of_one words number one low = record {
  has = low.has;
  least = λ other has. let inside : other / 64 < length words = within words other has in low.least other (omega (arith, inside, one)) has;
}

-- a row and the one above, where a number comes into the first and its word into the second
pub summary_added : (below above below' above' : List ℕ) (number : ℕ) → IsSummary below above → HasAdded number below below' → HasAdded (number / 64) above above' → IsSummary below' above'
summary_added below above below' above' number s low high = record {
  has = λ word. elim (cases_eq word (number / 64)) [
    | inl same ↦ ((λ _. record { number = number; of_word = sym same; has = low.itself }), (λ _. subst (Has above') (sym same) high.itself))
    | inr differ ↦ (
      (λ has. let old : HasSomeIn below word = (s.has word).0 (sym (high.others word differ) ∙ has) in
          record { number = old.number; of_word = old.of_word; has = low.others old.number (λ e. differ (sym old.of_word ∙ ap (λ n. n / 64) e)) ∙ old.has }),
      (λ some. high.others word differ ∙ (s.has word).1 (record { number = some.number; of_word = some.of_word; has = sym (low.others some.number (λ e. differ (sym some.of_word ∙ ap (λ n. n / 64) e))) ∙ some.has })),
    )
  ];
  room = omega (arith, low.length, high.length, s.room);
}

-- the same, where a number goes out and its word has none left
pub summary_taken : (below above below' above' : List ℕ) (number : ℕ) → IsSummary below above → HasTaken number below below' → HasNoneIn below' (number / 64) → HasTaken (number / 64) above above' → IsSummary below' above'
summary_taken below above below' above' number s low none high = record {
  has = λ word. elim (cases_eq word (number / 64)) [
    | inl same ↦ (
      (λ has. absurd (omega (arith, ap (digit above') same, has, high.itself))),
      (λ some. absurd (omega (arith, none some.number (some.of_word ∙ same), some.has))),
    )
    | inr differ ↦ (
      (λ has. let old : HasSomeIn below word = (s.has word).0 (sym (high.others word differ) ∙ has) in
          record { number = old.number; of_word = old.of_word; has = low.others old.number (λ e. differ (sym old.of_word ∙ ap (λ n. n / 64) e)) ∙ old.has }),
      (λ some. high.others word differ ∙ (s.has word).1 (record { number = some.number; of_word = some.of_word; has = sym (low.others some.number (λ e. differ (sym some.of_word ∙ ap (λ n. n / 64) e))) ∙ some.has })),
    )
  ];
  room = omega (arith, low.length, high.length, s.room);
}

-- the same, where its word has one left, so that the row above stays
pub summary_kept : (below above below' : List ℕ) (number : ℕ) → IsSummary below above → Has below number → HasTaken number below below' → HasSomeIn below' (number / 64) → IsSummary below' above
summary_kept below above below' number s there low left = record {
  has = λ word. elim (cases_eq word (number / 64)) [
    | inl same ↦ ((λ _. subst (HasSomeIn below') (sym same) left), (λ _. subst (Has above) (sym same) (up below above s number there)))
    | inr differ ↦ (
      (λ has. let old : HasSomeIn below word = (s.has word).0 has in
          record { number = old.number; of_word = old.of_word; has = low.others old.number (λ e. differ (sym old.of_word ∙ ap (λ n. n / 64) e)) ∙ old.has }),
      (λ some. (s.has word).1 (record { number = some.number; of_word = some.of_word; has = sym (low.others some.number (λ e. differ (sym some.of_word ∙ ap (λ n. n / 64) e))) ∙ some.has })),
    )
  ];
  room = omega (arith, low.length, s.room);
}

-- a number of the lowest row shows in the top
pub top_some : (s : Levels) → AreLevels s → length s.top ≤ 1 → (number : ℕ) → Has s.numbers.items number → HasSomeIn s.top 0
top_some s levels one number has =
    let word = up s.numbers.items s.words.items levels.words number has in
    let block = up s.words.items s.blocks.items levels.blocks (number / 64) word in
    let above = up s.blocks.items s.top levels.top (number / 64 / 64) block in
    let inside : number / 64 / 64 / 64 / 64 < length s.top = within s.top (number / 64 / 64 / 64) above in
    record { number = number / 64 / 64 / 64; of_word = omega (arith, inside, one); has = above }

-- there is a number exactly where the top has one
pub empty_at_top : (s : Levels) → AreLevels s → length s.top ≤ 1 → (empty : Bool) → MatchBool empty (HasNoneIn s.top 0) (HasSomeIn s.top 0)
    → MatchBool empty (HasNone s.numbers.items) ((number : ℕ) × Has s.numbers.items number)
empty_at_top s levels one true none = λ number. elim (cases_eq (digit s.numbers.items number) 1) [
  | inl has ↦ let top = top_some s levels one number has in absurd (omega (arith, none top.number top.of_word, top.has))
  | inr other ↦ omega (arith, other, digit_below s.numbers.items number)
]
empty_at_top s levels one false some =
    let block = down s.blocks.items s.top levels.top some.number some.has in
    let word = down s.words.items s.blocks.items levels.blocks block.number block.has in
    let number = down s.numbers.items s.words.items levels.words word.number word.has in
    (number.number, number.has)

-- a number of the lowest row, in the rows above
pub record IsThere (s : Levels) (number : ℕ) : Type 0 where
  pub word : Has s.words.items (number / 64)
  pub block : Has s.blocks.items (number / 64 / 64)
  pub top : Has s.top (number / 64 / 64 / 64)
  pub in_numbers : number / 64 < length s.numbers.items
  pub in_words : number / 64 / 64 < length s.words.items
  pub in_blocks : number / 64 / 64 / 64 < length s.blocks.items
  pub in_top : number / 64 / 64 / 64 / 64 < length s.top

pub there : (s : Levels) → AreLevels s → (number : ℕ) → Has s.numbers.items number → IsThere s number
there s levels number has =
    let word = up s.numbers.items s.words.items levels.words number has in
    let block = up s.words.items s.blocks.items levels.blocks (number / 64) word in
    let top = up s.blocks.items s.top levels.top (number / 64 / 64) block in
    record {
      word = word;
      block = block;
      top = top;
      in_numbers = within s.numbers.items number has;
      in_words = within s.words.items (number / 64) word;
      in_blocks = within s.blocks.items (number / 64 / 64) block;
      in_top = within s.top (number / 64 / 64 / 64) top;
    }

-- a row of zeros has no number
pub none_in_zeros : (words : List ℕ) → ((word : ℕ) → get_or words word 0 ≡ 0) → HasNone words
none_in_zeros words zeros number = digit_of_zero words number (zeros (number / 64))

pub summary_of_zeros : (below above : List ℕ) → HasNone below → HasNone above → length below ≤ 64 * length above → IsSummary below above
summary_of_zeros below above none none_above room = record {
  has = λ word. ((λ has. absurd (omega (arith, has, none_above word))), (λ some. absurd (omega (arith, some.has, none some.number))));
  room = room;
}

pub none_in_replicate : (count : ℕ) → HasNone (replicate count 0)
none_in_replicate count = none_in_zeros (replicate count 0) (λ word. elim (cases_lt word count) [
  | inl h ↦ get_or-replicate count word 0 0 h
  | inr past ↦ get_or_past (replicate count 0) word 0 (omega (arith, length-replicate {A = ℕ} count 0, past))
])
