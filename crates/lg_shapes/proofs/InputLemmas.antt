-- The widths of inputs, some of which have one width.
use Rattle.std.proofs.Common.{◌≡◌, ℕ, zero, suc, ◌+◌, ◌*◌, ◌<◌, ◌≤◌, Bool, true, false, List, [], ◌∷◌, ◌++◌, length, get_or, map, take, replicate, refl, sym, ap, ◌∙◌, arith, length-append, Option, Some}
use Rattle.std.specs.Prelude.{IfSome, All, slice_get}
use Rattle.std.specs.List.{sum_by, range_with_len, take-map}
use Rattle.std.proofs.Math.Seq.{take-append_seam}
use Rattle.std.proofs.lemmas.List.{length-replicate, length-map, get_or_default, get_or-replicate, get_or-append-add}
use Rattle.std.proofs.lemmas.List.Sums.{sum_by-cons}
use Rattle.std.proofs.lemmas.List.FromFn.{get_or-map-range_with_len, length-map-range_with_len}
use Rattle.std.proofs.lemmas.Option.{slice_get-get_or}
use Rattle.lg_value.specs.declared.bit.Bit.{Bit}
use Rattle.lg_gates.specs.Gate.{HaveWidth}
use Rattle.lg_gates.specs.Shape.{not_word}
use Rattle.lg_gates.specs.Plexer.{first_width, HaveOneWidth}
use Rattle.lg_gates.proofs.Widths.{length-not_word}
use Rattle.lg_memory.specs.Inputs.{Word, word_at}
use Rattle.lg_memory.proofs.ShapeLemmas.{length-word_at, AreWords-from_widths}
use Rattle.lg_shapes.specs.Gates.{read_input, read_at, read_inputs}

-- the bits of so many words of one width
pub sum_by-length : (words : List Word) (count width : ℕ) → map length words ≡ replicate count width → sum_by length words ≡ count * width
sum_by-length [] zero width h = search arith
sum_by-length [] (suc count) width h = absurd (cc h)
sum_by-length (w ∷ words) zero width h = absurd (cc h)
sum_by-length (w ∷ words) (suc count) width h =
    let first : length w ≡ width = cc h in
    let rest : sum_by length words ≡ count * width = sum_by-length words count width (cc h) in
    sum_by-cons length w words ∙ rw (first, rest) (omega arith)

-- the widths of the first inputs, of which so many have one width
pub widths-take : (inputs : List Word) (count width : ℕ) (others : List ℕ) → map length inputs ≡ replicate count width ++ others → map length (take count inputs) ≡ replicate count width
widths-take inputs count width others h =
    let front : take count (replicate count width ++ others) ≡ replicate count width = rw length-replicate at (take-append_seam (replicate count width) others) in
    sym (take-map length count inputs) ∙ (ap (take count) h ∙ front)

-- how many they are
pub length-take_of : (inputs : List Word) (count width : ℕ) (others : List ℕ) → map length inputs ≡ replicate count width ++ others → length (take count inputs) ≡ count
length-take_of inputs count width others h = (AreWords-from_widths (take count inputs) count width (widths-take inputs count width others h)).0

-- the width of an input behind them
pub length-behind : (inputs : List Word) (count width k : ℕ) (others : List ℕ) → map length inputs ≡ replicate count width ++ others → length (word_at inputs (count + k)) ≡ get_or others k 0
length-behind inputs count width k others h =
    let behind : get_or (replicate count width ++ others) (count + k) 0 ≡ get_or others k 0 = rw length-replicate at (get_or-append-add (replicate count width) others k 0) in
    length-word_at inputs (replicate count width ++ others) (count + k) h ∙ behind

-- the width of the input right behind them
pub length-select : (inputs : List Word) (count width next : ℕ) (others : List ℕ) → map length inputs ≡ replicate count width ++ next ∷ others → length (word_at inputs count) ≡ next
length-select inputs count width next others h =
    let last : count + 0 ≡ count = omega arith in
    rw last at (length-behind inputs count width 0 (next ∷ others) h)

-- the same, as it is read
pub length-read_behind : (inputs : List Word) (count width next : ℕ) (others : List ℕ) (word : Word) → map length inputs ≡ replicate count width ++ next ∷ others → word ≡ get_or inputs count word → length word ≡ next
length-read_behind inputs count width next others word h read =
    let whole : length inputs ≡ count + suc (length others) =
    sym (length-map inputs length) ∙ (ap length h ∙ rw length-replicate at (length-append (replicate count width) (next ∷ others))) in
    let same : get_or inputs count word ≡ word_at inputs count = get_or_default inputs count word [] (omega (arith, whole)) in
    ap length (read ∙ same) ∙ length-select inputs count width next others h

first_width-of : (words : List Word) (count width : ℕ) → 1 ≤ count → map length words ≡ replicate count width → first_width words ≡ width
first_width-of words zero width some h = absurd (omega arith)
first_width-of [] (suc count) width some h = absurd (cc h)
first_width-of (w ∷ words) (suc count) width some h = cc h

-- the first width of the first inputs
pub first_width-take : (inputs : List Word) (count width : ℕ) (others : List ℕ) → 1 ≤ count → map length inputs ≡ replicate count width ++ others → first_width (take count inputs) ≡ width
first_width-take inputs count width others some h = first_width-of (take count inputs) count width some (widths-take inputs count width others h)

-- the first inputs have one width
pub one_width-take : (inputs : List Word) (count width : ℕ) (others : List ℕ) → 1 ≤ count → map length inputs ≡ replicate count width ++ others → HaveOneWidth (take count inputs)
one_width-take inputs count width others some h =
    rw (first_width-take inputs count width others some h) (AreWords-from_widths (take count inputs) count width (widths-take inputs count width others h)).1

-- an input of a gate as it is read
read_input-width : (negated attached : Bool) (word : Word) (width : ℕ) → length word ≡ width → IfSome (read_input negated attached word) (λ w. length w ≡ width)
read_input-width negated false word width h = tt
read_input-width false true word width h = h
read_input-width true true word width h = length-not_word word ∙ h

-- the inputs of a gate as they are read
pub read_inputs-width : (negated attached : List Bool) (inputs : List Word) (count width : ℕ) → map length inputs ≡ replicate count width → HaveWidth width (read_inputs negated attached inputs)
read_inputs-width negated attached inputs count width h k d less =
    let all = AreWords-from_widths inputs count width h in
    let inside : k < length inputs = rw (length-map-range_with_len (read_at negated attached inputs) 0 (length inputs)) at less in
    rw (get_or-map-range_with_len (read_at negated attached inputs) 0 (length inputs) k k d inside (omega arith))
    (read_input-width (get_or negated k false) (get_or attached k false) (word_at inputs k) width (all.1 k [] inside))

-- the word of a line
pub slice_get-line : (line : ℕ → Word) (count k : ℕ) → k < count → slice_get (map line (range_with_len 0 count)) k ≡ Some (line k)
slice_get-line line count k less =
    slice_get-get_or (map line (range_with_len 0 count)) k [] (rw (length-map-range_with_len line 0 count) less)
    ∙ ap Some (get_or-map-range_with_len line 0 count k k [] less (omega arith))

-- its width, where all lines have one
pub slice_get-replicate : (count width k : ℕ) → k < count → slice_get (replicate count width) k ≡ Some width
slice_get-replicate count width k less =
    slice_get-get_or (replicate count width) k 0 (rw (length-replicate count width) less) ∙ ap Some (get_or-replicate count k width 0 less)
