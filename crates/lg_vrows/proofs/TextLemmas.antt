-- Text that is put together field by field.
use Rattle.std.proofs.Common.{◌≡◌, ℕ, ◌+◌, ◌-◌, ◌<◌, ◌≤◌, min, List, [], ◌∷◌, ◌++◌, length, map, get_or, take, reverse, sym, ap, ◌∙◌, arith, append_assoc}
use Rattle.std.specs.Prelude.{slice_get, Some, zip}
use Rattle.std.specs.Fmt.{decimal}
use Rattle.std.specs.List.{flat_map, enumerate_from}
use Rattle.std.proofs.lemmas.List.{append-nil, take_all, take-map, take_more, map_more, get_or-map, length-map, length-reverse, get_or-reverse, flat_map_more}
use Rattle.std.proofs.lemmas.List.Concat.{flat_map-append}
use Rattle.std.proofs.lemmas.List.FromFn.{length-enumerate_from, get_or-enumerate_from}
use Rattle.std.proofs.lemmas.Option.{get_or_from_slice_get}
use Rattle.std.proofs.lemmas.Slice.Zip.{length-zip, get_or-zip}
use Rattle.lg_value.specs.declared.bit.Bit.{Bit}
use Rattle.lg_value.specs.Bit.{digit_of}
use Rattle.lg_value.specs.Word.{word_of_number}
use Rattle.lg_value.proofs.WordLemmas.{length-word_of_number}
use Rattle.lg_vmeaning.specs.declared.ports.PortLine.{PortLine}
use Rattle.lg_vrows.specs.Rows.{plain}
use Rattle.lg_vrows.specs.Text.{binary, row_text}
use Rattle.lg_vrows.specs.Steps.{lines}

-- a field behind a tab
abbrev pub tabbed : List ℕ → List ℕ
tabbed field = 9 ∷ field

abbrev pub name_fields : List (List ℕ × ℕ) → List ℕ
name_fields all = flat_map tabbed (map (λ (l : List ℕ × ℕ). plain l.0) all)

abbrev pub number_fields : List ((List ℕ × ℕ) × ℕ) → List ℕ
number_fields all = flat_map tabbed (map (λ (p : (List ℕ × ℕ) × ℕ). binary p.0.1 p.1) all)

-- one field more
tab_more : {X : Type 0} (f : X → List ℕ) (xs : List X) (i : ℕ) (d : X) → i < length xs → flat_map tabbed (map f (take (i + 1) xs)) ≡ flat_map tabbed (map f (take i xs)) ++ tabbed (f (get_or xs i d))
tab_more f xs i d lt =
    ap (flat_map tabbed) (map_more f xs i d lt)
    ∙ (flat_map-append tabbed (map f (take i xs)) (f (get_or xs i d) ∷ [])
    ∙ ap (λ (field : List ℕ). flat_map tabbed (map f (take i xs)) ++ field) (append-nil (tabbed (f (get_or xs i d)))))

pub field_more : (ports : List PortLine) (out : List ℕ) (i n : ℕ) (port : PortLine) (value : ℕ) → n ≡ i + 1 → i < length ports → i < length out → port ≡ get_or ports i port → value ≡ get_or out i value
    → (start before after : List ℕ) → before ≡ start ++ number_fields (take i (zip (lines ports) out)) → after ≡ (before ++ 9 ∷ []) ++ binary port.width value → after ≡ start ++ number_fields (take n (zip (lines ports) out))
field_more ports out i n port value next inside within is holds start before after so e =
    let line : List ℕ × ℕ = (port.name, port.width) in
    let many : length (lines ports) ≡ length ports = length-map ports (λ (line : PortLine). (line.name, line.width)) in
    let short : i < length (lines ports) = omega (arith, many, inside) in
    let inside_all : i < length (zip (lines ports) out) = omega (arith, length-zip (lines ports) out, many, inside, within) in
    let first : get_or (lines ports) i line ≡ line = get_or-map (λ (line : PortLine). (line.name, line.width)) ports i port line inside ∙ ap (λ (p : PortLine). (p.name, p.width)) (sym is) in
    let second : get_or out i value ≡ value = sym holds in
    let pair : get_or (zip (lines ports) out) i (line, value) ≡ (line, value) = get_or-zip (lines ports) out i (line, value) short within ∙ (λ k. (first k, second k)) in
    let grown = tab_more (λ (p : (List ℕ × ℕ) × ℕ). binary p.0.1 p.1) (zip (lines ports) out) i (line, value) inside_all in
    let field = ap (λ (p : (List ℕ × ℕ) × ℕ). number_fields (take i (zip (lines ports) out)) ++ tabbed (binary p.0.1 p.1)) pair in
    e
    ∙ (append_assoc before (9 ∷ []) (binary port.width value)
    ∙ (ap (λ (text : List ℕ). text ++ tabbed (binary port.width value)) so
    ∙ (append_assoc start (number_fields (take i (zip (lines ports) out))) (tabbed (binary port.width value))
    ∙ (ap (λ (text : List ℕ). start ++ text) (sym (grown ∙ field))
    ∙ ap (λ (k : ℕ). start ++ number_fields (take k (zip (lines ports) out))) (sym next)))))

-- all fields of a row
pub row_end : (ports : List PortLine) (out : List ℕ) (n number : ℕ) → n ≡ min (length ports) (length out) → (start before after : List ℕ) → before ≡ (start ++ decimal number) ++ number_fields (take n (zip (lines ports) out)) → after ≡ before ++ 10 ∷ []
    → after ≡ start ++ row_text (lines ports) (number, out)
row_end ports out n number end start before after so e =
    let many : length (lines ports) ≡ length ports = length-map ports (λ (line : PortLine). (line.name, line.width)) in
    let long : length (zip (lines ports) out) ≤ n = omega (arith, length-zip (lines ports) out, many, end) in
    let all : take n (zip (lines ports) out) ≡ zip (lines ports) out = take_all n (zip (lines ports) out) long in
    let fields = number_fields (zip (lines ports) out) in
    e
    ∙ (ap (λ (text : List ℕ). text ++ 10 ∷ []) (so ∙ ap (λ (ps : List ((List ℕ × ℕ) × ℕ)). (start ++ decimal number) ++ number_fields ps) all)
    ∙ (append_assoc (start ++ decimal number) fields (10 ∷ [])
    ∙ append_assoc start (decimal number) (fields ++ 10 ∷ [])))

-- one row more
pub table_more : (ports : List (List ℕ × ℕ)) (outs : List (List ℕ)) (at : ℕ) (out : List ℕ) → at < length outs → out ≡ get_or outs at out → (start before after : List ℕ)
    → before ≡ start ++ flat_map (row_text ports) (take at (enumerate_from 1 outs)) → after ≡ before ++ row_text ports (at + 1, out) → after ≡ start ++ flat_map (row_text ports) (take (at + 1) (enumerate_from 1 outs))
table_more ports outs at out lt is start before after so e =
    let rows = enumerate_from 1 outs in
    let inside : at < length rows = omega (arith, length-enumerate_from 1 outs, lt) in
    let next : 1 + at ≡ at + 1 = omega arith in
    let same : get_or outs at out ≡ out = sym is in
    let pair : get_or rows at (at + 1, out) ≡ (at + 1, out) = get_or-enumerate_from 1 outs at (at + 1, out) lt ∙ (λ k. (next k, same k)) in
    let grown : take (at + 1) rows ≡ take at rows ++ (at + 1, out) ∷ [] = take_more rows at (at + 1, out) inside ∙ ap (λ (p : ℕ × List ℕ). take at rows ++ p ∷ []) pair in
    e
    ∙ (ap (λ (text : List ℕ). text ++ row_text ports (at + 1, out)) so
    ∙ (flat_map_more (row_text ports) start (take at rows) (at + 1, out)
    ∙ ap (λ (some : List (ℕ × List ℕ)). start ++ flat_map (row_text ports) some) (sym grown)))

pub table_end : (ports : List (List ℕ × ℕ)) (outs : List (List ℕ)) (at : ℕ) → length outs ≤ at → (start text : List ℕ) → text ≡ start ++ flat_map (row_text ports) (take at (enumerate_from 1 outs)) → text ≡ start ++ flat_map (row_text ports) (enumerate_from 1 outs)
table_end ports outs at end start text so =
    let long : length (enumerate_from 1 outs) ≤ at = omega (arith, length-enumerate_from 1 outs, end) in
    so ∙ ap (λ (some : List (ℕ × List ℕ)). start ++ flat_map (row_text ports) some) (take_all at (enumerate_from 1 outs) long)

-- one digit more
pub digit_more : (width number index : ℕ) (bit : Bit) → index < width → slice_get (word_of_number width number) (width - 1 - index) ≡ Some bit → take (index + 1) (binary width number) ≡ take index (binary width number) ++ (48 + digit_of bit) ∷ []
digit_more width number index bit lt e =
    let word = word_of_number width number in
    let as_digit = λ (bit : Bit). 48 + digit_of bit in
    let wide : length word ≡ width = length-word_of_number width number in
    let turned : length (reverse word) ≡ width = length-reverse word ∙ wide in
    let inside : index < length (reverse word) = omega (arith, turned, lt) in
    let short : index < length word = omega (arith, wide, lt) in
    let bit_is : get_or (reverse word) index bit ≡ bit =
    get_or-reverse word index bit short ∙ (ap (λ (n : ℕ). get_or word (n - 1 - index) bit) wide ∙ get_or_from_slice_get word (width - 1 - index) bit bit e) in
    take-map as_digit (index + 1) (reverse word)
    ∙ (map_more as_digit (reverse word) index bit inside
    ∙ ((λ k. sym (take-map as_digit index (reverse word)) k ++ as_digit (bit_is k) ∷ [])))
