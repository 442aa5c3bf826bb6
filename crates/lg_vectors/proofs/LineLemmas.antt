-- Lines and words, taken from the front.
use Rattle.std.proofs.Common.{◌≡◌, ℕ, zero, suc, ◌+◌, ◌-◌, ◌<◌, ◌≤◌, Bool, true, false, cond, eqb, List, [], ◌∷◌, length, take, drop, Some, None, inl, inr, refl, sym, ap, subst, ◌∙◌, arith, length-drop}
use Rattle.std.specs.Prelude.{not, nat_lt, filter}
use Rattle.std.specs.List.{slice_split, onto_first, prefix_len, position, position_or_len}
use Rattle.std.specs.Str.Lines.{lines, lines_of_parts, strip_carriage_return}
use Rattle.std.proofs.lemmas.List.{take_all}
use Rattle.std.proofs.lemmas.List.Splits.{slice_split-cons_yes, slice_split-cons_no}
use Rattle.std.proofs.lemmas.Bool.Decides.{Decides-ltb, eqb_tells}
use Rattle.lg_vectors.specs.VectorText.{is_gap, words}

-- the rest of a slice, as the code takes it
pub tail_slice : (n : ℕ) (text : List ℕ) → take (length text - n) (drop n text) ≡ drop n text
tail_slice n text = take_all (length text - n) (drop n text) (omega (arith, length-drop n text))

one_more : (n : ℕ) → 1 + n ≡ suc n
one_more n = omega arith

pub not_zero : (n : ℕ) → eqb (suc n) 0 ≡ false
not_zero n = elim (eqb_tells (suc n) 0) as (λ _. eqb (suc n) 0 ≡ false) [ inl e ↦ absurd (omega (arith, e.1)) | inr e ↦ e.0 ]

-- the parts behind the first one
abbrev pub others : (ℕ → Bool) → List ℕ → List (List ℕ)
others p [] = []
others p (c ∷ cs) = slice_split p cs

split_step : (p : ℕ → Bool) (c : ℕ) (cs : List ℕ) (at : Bool) → p c ≡ at → slice_split p cs ≡ take (position_or_len p cs) cs ∷ others p (drop (position_or_len p cs) cs)
    → slice_split p (c ∷ cs) ≡ take (cond (not at) (1 + position_or_len p cs) 0) (c ∷ cs) ∷ others p (drop (cond (not at) (1 + position_or_len p cs) 0) (c ∷ cs))
split_step p c cs true h more = slice_split-cons_yes p c cs h
split_step p c cs false h more = rw (one_more (position_or_len p cs)) (slice_split-cons_no p c cs h ∙ ap (onto_first c) more)

-- a text is cut at the first byte that passes
pub split_front : (p : ℕ → Bool) (text : List ℕ) → slice_split p text ≡ take (position_or_len p text) text ∷ others p (drop (position_or_len p text) text)
split_front p [] = refl
split_front p (c ∷ cs) = split_step p c cs (p c) refl (split_front p cs)

words-gap : (c : ℕ) (cs : List ℕ) → is_gap c ≡ true → words (c ∷ cs) ≡ words cs
words-gap c cs h = ap (filter (λ word. not (eqb (length word) 0))) (slice_split-cons_yes is_gap c cs h)

skip_step : (c : ℕ) (cs : List ℕ) (gap : Bool) → is_gap c ≡ gap → words cs ≡ words (drop (prefix_len is_gap cs) cs) → words (c ∷ cs) ≡ words (drop (cond gap (1 + prefix_len is_gap cs) 0) (c ∷ cs))
skip_step c cs true h more = rw (one_more (prefix_len is_gap cs)) (words-gap c cs h ∙ more)
skip_step c cs false h more = refl

-- white space in front does not count
pub words-skip : (text : List ℕ) → words text ≡ words (drop (prefix_len is_gap text) text)
words-skip [] = refl
words-skip (c ∷ cs) = skip_step c cs (is_gap c) refl (words-skip cs)

abbrev StartsWith : Bool → List ℕ → Type 0
StartsWith gap [] = Unit {0}
StartsWith gap (c ∷ cs) = is_gap c ≡ gap

skipped : (text : List ℕ) → StartsWith false (drop (prefix_len is_gap text) text)
skipped [] = tt
skipped (c ∷ cs) = step c cs (is_gap c) refl (skipped cs)
  where
    step : (c : ℕ) (cs : List ℕ) (gap : Bool) → is_gap c ≡ gap → StartsWith false (drop (prefix_len is_gap cs) cs) → StartsWith false (drop (cond gap (1 + prefix_len is_gap cs) 0) (c ∷ cs))
    step c cs true h more = rw (one_more (prefix_len is_gap cs)) more
    step c cs false h more = h

behind_word : (text : List ℕ) → StartsWith true (drop (position_or_len is_gap text) text)
behind_word [] = tt
behind_word (c ∷ cs) = step c cs (is_gap c) refl (behind_word cs)
  where
    step : (c : ℕ) (cs : List ℕ) (gap : Bool) → is_gap c ≡ gap → StartsWith true (drop (position_or_len is_gap cs) cs) → StartsWith true (drop (cond (not gap) (1 + position_or_len is_gap cs) 0) (c ∷ cs))
    step c cs true h more = h
    step c cs false h more = rw (one_more (position_or_len is_gap cs)) more

others_words : (rest : List ℕ) → StartsWith true rest → filter (λ word. not (eqb (length word) 0)) (others is_gap rest) ≡ words rest
others_words [] h = refl
others_words (c ∷ cs) h = sym (words-gap c cs h)

word_first : (start : List ℕ) → 1 ≤ length start → StartsWith false start → words start ≡ take (position_or_len is_gap start) start ∷ words (drop (position_or_len is_gap start) start)
word_first [] some h = absurd (omega (arith, some))
word_first (c ∷ cs) some h =
    let size : position_or_len is_gap (c ∷ cs) ≡ suc (position_or_len is_gap cs) = rw h (one_more (position_or_len is_gap cs)) in
    let split = split_front is_gap (c ∷ cs) in
    let cut : slice_split is_gap (c ∷ cs) ≡ (c ∷ take (position_or_len is_gap cs) cs) ∷ others is_gap (drop (suc (position_or_len is_gap cs)) (c ∷ cs)) = split ∙ ap (λ n. take n (c ∷ cs) ∷ others is_gap (drop n (c ∷ cs))) size in
    let tail : StartsWith true (drop (suc (position_or_len is_gap cs)) (c ∷ cs)) = subst (λ (n : ℕ). StartsWith true (drop n (c ∷ cs))) size (behind_word (c ∷ cs)) in
    let kept : not (eqb (length (c ∷ take (position_or_len is_gap cs) cs)) 0) ≡ true = ap not (not_zero (length (take (position_or_len is_gap cs) cs))) in
    ap (filter (λ word. not (eqb (length word) 0))) cut
    ∙ ap (λ b. cond b ((c ∷ take (position_or_len is_gap cs) cs) ∷ filter (λ word. not (eqb (length word) 0)) (others is_gap (drop (suc (position_or_len is_gap cs)) (c ∷ cs)))) (filter (λ word. not (eqb (length word) 0)) (others is_gap (drop (suc (position_or_len is_gap cs)) (c ∷ cs))))) kept
    ∙ ap (λ more. (c ∷ take (position_or_len is_gap cs) cs) ∷ more) (others_words (drop (suc (position_or_len is_gap cs)) (c ∷ cs)) tail)
    ∙ ap (λ n. take n (c ∷ cs) ∷ words (drop n (c ∷ cs))) (sym size)

-- no word is left
pub no_words : (text : List ℕ) (g : ℕ) → g ≡ prefix_len is_gap text → take (length text - g) (drop g text) ≡ [] → words text ≡ []
no_words text g size none =
    let empty : drop g text ≡ [] = sym (tail_slice g text) ∙ none in
    words-skip text ∙ ap (λ n. words (drop n text)) (sym size) ∙ ap words empty

-- the first word, and what follows it
pub first_word : (text word rest : List ℕ) (g n : ℕ) → g ≡ prefix_len is_gap text → 1 ≤ length (take (length text - g) (drop g text)) → n ≡ position_or_len is_gap (take (length text - g) (drop g text))
    → word ≡ take n (take (length text - g) (drop g text)) → rest ≡ drop n (take (length text - g) (drop g text)) → words text ≡ word ∷ words rest
first_word text word rest g n size some long front back =
    let same : take (length text - g) (drop g text) ≡ drop (prefix_len is_gap text) text = tail_slice g text ∙ ap (λ k. drop k text) size in
    let is_some : 1 ≤ length (drop (prefix_len is_gap text) text) = rw same at some in
    let first = word_first (drop (prefix_len is_gap text) text) is_some (skipped text) in
    rw (front, back, long, same) (words-skip text ∙ first)

found_at : (b : Bool) (n k : ℕ) → cond b (Some n) None ≡ Some k → (b ≡ true) × (n ≡ k)
found_at true n k h = (refl, cc h)
found_at false n k h = absurd (cc h)

not_found : (b : Bool) (n : ℕ) → cond b (Some n) None ≡ None → b ≡ false
not_found true n h = absurd (cc h)
not_found false n h = refl

-- where the first byte that passes stands
pub place_found : (p : ℕ → Bool) (text : List ℕ) (k : ℕ) → position p text ≡ Some k → (position_or_len p text ≡ k) × (k < length text)
place_found p text k h =
    let f = found_at (nat_lt (position_or_len p text) (length text)) (position_or_len p text) k h in
    let less : position_or_len p text < length text = (Decides-ltb (position_or_len p text) (length text)).0 f.0 in
    let same : position_or_len p text ≡ k = f.1 in
    (same, omega (arith, less, same))

pub none_found : (p : ℕ → Bool) (text : List ℕ) → position p text ≡ None → length text ≤ position_or_len p text
none_found p text h =
    let f = not_found (nat_lt (position_or_len p text) (length text)) (position_or_len p text) h in
    at_least (position_or_len p text) (length text) f
  where
    at_least : (a b : ℕ) → nat_lt a b ≡ false → b ≤ a
    at_least a b h = grind (arith, Decides-ltb)

more_lines : (line : List ℕ) (parts : List (List ℕ)) (part : List ℕ) (more : List (List ℕ)) → parts ≡ part ∷ more → lines_of_parts (line ∷ parts) ≡ strip_carriage_return line ∷ lines_of_parts parts
more_lines line parts part more e = rw e refl

drop_more : (text : List ℕ) (k : ℕ) → k < length text → others (λ c. eqb c 10) (drop k text) ≡ slice_split (λ c. eqb c 10) (drop (k + 1) text)
drop_more [] k h = absurd (omega (arith, h))
drop_more (c ∷ cs) zero h = refl
drop_more (c ∷ cs) (suc k) h =
    let more : suc k + 1 ≡ suc (k + 1) = omega arith in
    rw more (drop_more cs k (omega (arith, h)))

-- the first line of a text that has a line feed
pub first_line : (bytes line : List ℕ) (k : ℕ) → position (λ c. eqb c 10) bytes ≡ Some k → line ≡ strip_carriage_return (take k bytes) → lines bytes ≡ line ∷ lines (take (length bytes - (k + 1)) (drop (k + 1) bytes))
first_line bytes line k found is =
    let p = λ (c : ℕ). eqb c 10 in
    let place = place_found p bytes k found in
    let behind = drop (k + 1) bytes in
    let cut : slice_split p bytes ≡ take k bytes ∷ slice_split p behind =
    split_front p bytes ∙ ap (λ n. take n bytes ∷ others p (drop n bytes)) place.0 ∙ ap (λ parts. take k bytes ∷ parts) (drop_more bytes k place.1) in
    let next = split_front p behind in
    rw (tail_slice (k + 1) bytes, is)
    (ap lines_of_parts cut ∙ more_lines (take k bytes) (slice_split p behind) (take (position_or_len p behind) behind) (others p (drop (position_or_len p behind) behind)) next)

one_line : (bytes : List ℕ) → 1 ≤ length bytes → lines_of_parts (bytes ∷ []) ≡ bytes ∷ []
one_line [] some = absurd (omega (arith, some))
one_line (c ∷ cs) some = ap (λ b. cond b [] ((c ∷ cs) ∷ [])) (not_zero (length cs))

-- the last line, which has no end
pub last_line : (bytes : List ℕ) → 1 ≤ length bytes → position (λ c. eqb c 10) bytes ≡ None → lines bytes ≡ bytes ∷ lines (take (length bytes - length bytes) (drop (length bytes) bytes))
last_line bytes some none =
    let p = λ (c : ℕ). eqb c 10 in
    let past = none_found p bytes none in
    let all : take (position_or_len p bytes) bytes ≡ bytes = take_all (position_or_len p bytes) bytes past in
    let no : drop (position_or_len p bytes) bytes ≡ [] = dropped (position_or_len p bytes) bytes past in
    let end : take (length bytes - length bytes) (drop (length bytes) bytes) ≡ [] = tail_slice (length bytes) bytes ∙ dropped (length bytes) bytes (omega arith) in
    let cut : slice_split p bytes ≡ bytes ∷ [] = split_front p bytes ∙ ap (λ part. part ∷ others p (drop (position_or_len p bytes) bytes)) all ∙ ap (λ rest. bytes ∷ others p rest) no in
    rw end (ap lines_of_parts cut ∙ one_line bytes some)
  where
    dropped : (n : ℕ) (xs : List ℕ) → length xs ≤ n → drop n xs ≡ []
    dropped zero [] h = refl
    dropped zero (x ∷ xs) h = absurd (omega (arith, h))
    dropped (suc n) [] h = refl
    dropped (suc n) (x ∷ xs) h = dropped n xs (omega (arith, h))

-- a text that tests as empty is
pub nothing_left : (rest : List ℕ) (empty : Bool) → empty ≡ eqb (length rest) 0 → empty ≡ true → rest ≡ []
nothing_left [] empty e h = refl
nothing_left (c ∷ cs) empty e h = let no = not_zero (length cs) in absurd (cc (e, h, no))
