-- Defined inputs give defined outputs.
use Rattle.std.proofs.Common.{◌≡◌, ℕ, zero, suc, ◌+◌, ◌*◌, ◌^◌, ◌%◌, ◌==◌, ◌<◌, ◌≤◌, Bool, true, false, cond, ◌⊎◌, List, [], ◌∷◌, Option, None, Some, length, get_or, map, replicate, refl, ap, arith}
use Rattle.std.specs.List.{All, AllByRecursion, range_with_len}
use Rattle.std.specs.Option.{IfSome}
use Rattle.std.proofs.lemmas.List.Elements.{recursion_from_All, All-map, All-get_or, All-from_get_or}
use Rattle.std.proofs.lemmas.List.FromFn.{get_or-range_with_len, length-range_with_len}
use Rattle.lg_value.specs.declared.bit.Bit.{Bit}
use Rattle.lg_value.specs.declared.bit.Bit.TheVariants.{Zero, One, Unknown, Error}
use Rattle.lg_value.specs.Bit.{is_defined_bit, not_bit}
use Rattle.lg_value.specs.Word.{IsDefined, number_of, word_of_number}
use Rattle.lg_value.proofs.WordLemmas.{number_of-lt, IsDefined-word_of_number}
use Rattle.lg_gates.specs.declared.gates.GateKind.{GateKind}
use Rattle.lg_gates.specs.declared.gates.GateKind.TheVariants.{And, Or, Nand, Nor, XorOne, XorOdd, XnorOne, XnorOdd, OddParity, EvenParity}
use Rattle.lg_gates.specs.declared.outputs.OutForm.TheVariants.{ZeroOne}
use Rattle.lg_gates.specs.Gate.{some_zero, some_one, all_defined, ones, bit_of, gate_bit, lacks_inputs, gate_word, HaveWidth, CarryDefined}
use Rattle.lg_gates.specs.Shape.{not_word, buffer_word, shape_word}
use Rattle.lg_gates.specs.Plexer.{pick_word, spread_word, enabled_word}
use Rattle.lg_gates.specs.Priority.{greatest_one, priority_of}
use Rattle.lg_gates.specs.Selector.{group_word}
use Rattle.lg_gates.proofs.DefinedLemmas.{Decides-is_defined_bit, Decides-all_defined, IsDefined-replicate}
use Rattle.lg_gates.proofs.GateLemmas.{seen, gate_word-served}
use Rattle.lg_gates.proofs.PlexerLemmas.{pick_word-defined, group_word-defined}

-- a word is defined where each of its bits passes the test
from_tests : (word : List Bit) → all_defined word ≡ true → IsDefined word
from_tests word h = (Decides-all_defined word).0 h

to_tests : (word : List Bit) → IsDefined word → all_defined word ≡ true
to_tests word h = (Decides-all_defined word).1 h

bit_of_defined : (b : Bool) → is_defined_bit (bit_of b) ≡ true
bit_of_defined true = refl
bit_of_defined false = refl

cond_defined : (b : Bool) (x y : Bit) → is_defined_bit x ≡ true → is_defined_bit y ≡ true → is_defined_bit (cond b x y) ≡ true
cond_defined true x y h k = h
cond_defined false x y h k = k

not_defined : (b : Bit) → is_defined_bit b ≡ true → is_defined_bit (not_bit b) ≡ true
not_defined Zero h = refl
not_defined One h = refl
not_defined Unknown h = absurd (cc h)
not_defined Error h = absurd (cc h)

and_defined : (bits : List Bit) → all_defined bits ≡ true → is_defined_bit (gate_bit And bits) ≡ true
and_defined bits h = rw h (cond_defined (some_zero bits) Zero One refl refl)

or_defined : (bits : List Bit) → all_defined bits ≡ true → is_defined_bit (gate_bit Or bits) ≡ true
or_defined bits h = rw h (cond_defined (some_one bits) One Zero refl refl)

one_defined : (bits : List Bit) → all_defined bits ≡ true → is_defined_bit (gate_bit XorOne bits) ≡ true
one_defined bits h = rw h (bit_of_defined (ones bits == 1))

odd_defined : (bits : List Bit) → all_defined bits ≡ true → is_defined_bit (gate_bit XorOdd bits) ≡ true
odd_defined bits h = rw h (bit_of_defined (ones bits % 2 == 1))

-- a gate of defined bits answers a defined one
pub gate_bit-defined : (kind : GateKind) (bits : List Bit) → all_defined bits ≡ true → is_defined_bit (gate_bit kind bits) ≡ true
gate_bit-defined And bits h = and_defined bits h
gate_bit-defined Or bits h = or_defined bits h
gate_bit-defined Nand bits h = not_defined (gate_bit And bits) (and_defined bits h)
gate_bit-defined Nor bits h = not_defined (gate_bit Or bits) (or_defined bits h)
gate_bit-defined XorOne bits h = one_defined bits h
gate_bit-defined XorOdd bits h = odd_defined bits h
gate_bit-defined XnorOne bits h = not_defined (gate_bit XorOne bits) (one_defined bits h)
gate_bit-defined XnorOdd bits h = not_defined (gate_bit XorOdd bits) (odd_defined bits h)
gate_bit-defined OddParity bits h = odd_defined bits h
gate_bit-defined EvenParity bits h = not_defined (gate_bit XorOdd bits) (odd_defined bits h)

bit_defined : (word : List Bit) (place : ℕ) → IsDefined word → place < length word → is_defined_bit (get_or word place Unknown) ≡ true
bit_defined word place h inside =
    (Decides-is_defined_bit (get_or word place Unknown)).1 (All-get_or (λ b. (b ≡ Zero) ⊎ (b ≡ One)) word place Unknown inside h)

seen_defined : (width place : ℕ) (inputs : List (Option (List Bit))) → place < width → AllByRecursion (λ input. IfSome input (λ word. length word ≡ width)) inputs → AllByRecursion (λ input. IfSome input IsDefined) inputs → all_defined (seen place inputs) ≡ true
seen_defined width place [] inside wide defined = refl
seen_defined width place (None ∷ inputs) inside wide defined = seen_defined width place inputs inside wide.1 defined.1
seen_defined width place (Some word ∷ inputs) inside wide defined =
    let long : length word ≡ width = wide.0 in
    rw (bit_defined word place defined.0 (omega arith)) (seen_defined width place inputs inside wide.1 defined.1)

defined_map_range : (f : ℕ → Bit) (start count : ℕ) → ((k : ℕ) → start ≤ k → k < start + count → is_defined_bit (f k) ≡ true) → IsDefined (map f (range_with_len start count))
defined_map_range f start count each =
    All-map (λ b. (b ≡ Zero) ⊎ (b ≡ One)) f (range_with_len start count)
    (All-from_get_or (λ k. (f k ≡ Zero) ⊎ (f k ≡ One)) (range_with_len start count) 0
    (λ i h. let inside : i < count = omega (arith, h, length-range_with_len start count) in
    rw (get_or-range_with_len start count i 0 inside) ((Decides-is_defined_bit (f (start + i))).0 (each (start + i) (omega arith) (omega arith)))))

-- a gate that does not lack inputs, of defined words
pub gate_word-defined : (kind : GateKind) (width : ℕ) (inputs : List (Option (List Bit))) (strict : Bool) → lacks_inputs strict inputs ≡ false → HaveWidth width inputs → CarryDefined inputs → IsDefined (gate_word kind width inputs strict)
gate_word-defined kind width inputs strict served wide defined =
    rw (gate_word-served kind width inputs strict served)
    (defined_map_range (λ place. gate_bit kind (seen place inputs)) 0 width
    (λ place _ inside. gate_bit-defined kind (seen place inputs)
    (seen_defined width place inputs (omega arith)
    (recursion_from_All (λ input. IfSome input (λ word. length word ≡ width)) inputs wide)
    (recursion_from_All (λ input. IfSome input IsDefined) inputs defined))))

not_word_tests : (word : List Bit) → all_defined word ≡ true → all_defined (not_word word) ≡ true
not_word_tests [] h = refl
not_word_tests (Zero ∷ word) h = not_word_tests word h
not_word_tests (One ∷ word) h = not_word_tests word h
not_word_tests (Unknown ∷ word) h = absurd (cc h)
not_word_tests (Error ∷ word) h = absurd (cc h)

pub not_word-defined : (word : List Bit) → IsDefined word → IsDefined (not_word word)
not_word-defined word h = from_tests (not_word word) (not_word_tests word (to_tests word h))

buffer_word_tests : (word : List Bit) → all_defined word ≡ true → buffer_word word ≡ word
buffer_word_tests [] h = refl
buffer_word_tests (Zero ∷ word) h = ap (λ (w : List Bit). Zero ∷ w) (buffer_word_tests word h)
buffer_word_tests (One ∷ word) h = ap (λ (w : List Bit). One ∷ w) (buffer_word_tests word h)
buffer_word_tests (Unknown ∷ word) h = absurd (cc h)
buffer_word_tests (Error ∷ word) h = absurd (cc h)

-- a buffer passes a defined word
pub buffer_word-defined : (word : List Bit) → IsDefined word → buffer_word word ≡ word
buffer_word-defined word h = buffer_word_tests word (to_tests word h)

-- an output that drives 0 and 1 changes nothing
pub shape_word-ZeroOne : (word : List Bit) → shape_word ZeroOne word ≡ word
shape_word-ZeroOne [] = refl
shape_word-ZeroOne (b ∷ word) = ap (λ (w : List Bit). b ∷ w) (shape_word-ZeroOne word)

pub pick_word-IsDefined : (select : List Bit) (items : List (List Bit)) → length items ≡ 2 ^ length select → IsDefined select → All IsDefined items → IsDefined (pick_word select items)
pick_word-IsDefined select items count h each =
    rw (pick_word-defined select items (to_tests select h))
    (All-get_or IsDefined items (number_of select) [] (omega (arith, number_of-lt select)) each)

pub spread_word-IsDefined : (select input : List Bit) (place : ℕ) (off : Bit) → IsDefined select → IsDefined input → is_defined_bit off ≡ true → IsDefined (spread_word select input place off)
unfolding spread_word
spread_word-IsDefined select input place off s h o =
    rw (to_tests select s) (elim (number_of select == place) as (λ b. IsDefined (cond b input (replicate (length input) off))) [
      | true ↦ h
      | false ↦ IsDefined-replicate (length input) off o
    ])

pub enabled_word-defined : (enable : Bit) (value : List Bit) (off : Bit) → is_defined_bit enable ≡ true → IsDefined value → is_defined_bit off ≡ true → IsDefined (enabled_word enable value off)
enabled_word-defined Zero value off e v o = IsDefined-replicate (length value) off o
enabled_word-defined One value off e v o = v
enabled_word-defined Unknown value off e v o = absurd (cc e)
enabled_word-defined Error value off e v o = absurd (cc e)

either : (b : Bool) (x y : List Bit × Bit × Bit) (P : List Bit × Bit × Bit → Type 0) → P x → P y → P (cond b x y)
either true x y P h k = h
either false x y P h k = k

-- the answers of a priority encoder
pub priority_of-defined : (inputs : List Bit) (enable : Bit) (width : ℕ) (off : Bit) → IsDefined inputs → is_defined_bit enable ≡ true → is_defined_bit off ≡ true → IsDefined (priority_of inputs enable width off).0
unfolding priority_of
priority_of-defined inputs Zero width off h e o = rw (to_tests inputs h) (IsDefined-replicate width off o)
priority_of-defined inputs One width off h e o =
    rw (to_tests inputs h)
    (either (some_one inputs) (word_of_number width (greatest_one inputs), One, Zero) (replicate width off, Zero, One) (λ o. IsDefined o.0)
    (IsDefined-word_of_number width (greatest_one inputs)) (IsDefined-replicate width off o))
priority_of-defined inputs Unknown width off h e o = absurd (cc e)
priority_of-defined inputs Error width off h e o = absurd (cc e)

pub group_bit-defined : (inputs : List Bit) (enable : Bit) (width : ℕ) (off : Bit) → IsDefined inputs → is_defined_bit enable ≡ true → is_defined_bit (priority_of inputs enable width off).1 ≡ true
unfolding priority_of
group_bit-defined inputs Zero width off h e = rw (to_tests inputs h) refl
group_bit-defined inputs One width off h e =
    rw (to_tests inputs h)
    (either (some_one inputs) (word_of_number width (greatest_one inputs), One, Zero) (replicate width off, Zero, One) (λ o. is_defined_bit o.1 ≡ true) refl refl)
group_bit-defined inputs Unknown width off h e = absurd (cc e)
group_bit-defined inputs Error width off h e = absurd (cc e)

pub enable_output-defined : (inputs : List Bit) (enable : Bit) (width : ℕ) (off : Bit) → IsDefined inputs → is_defined_bit enable ≡ true → is_defined_bit (priority_of inputs enable width off).2 ≡ true
unfolding priority_of
enable_output-defined inputs Zero width off h e = rw (to_tests inputs h) refl
enable_output-defined inputs One width off h e =
    rw (to_tests inputs h)
    (either (some_one inputs) (word_of_number width (greatest_one inputs), One, Zero) (replicate width off, Zero, One) (λ o. is_defined_bit o.2 ≡ true) refl refl)
enable_output-defined inputs Unknown width off h e = absurd (cc e)
enable_output-defined inputs Error width off h e = absurd (cc e)

bit_or_zero : (word : List Bit) (place : ℕ) → all_defined word ≡ true → is_defined_bit (get_or word place Zero) ≡ true
bit_or_zero [] place h = refl
bit_or_zero (Zero ∷ word) zero h = refl
bit_or_zero (One ∷ word) zero h = refl
bit_or_zero (Zero ∷ word) (suc place) h = bit_or_zero word place h
bit_or_zero (One ∷ word) (suc place) h = bit_or_zero word place h
bit_or_zero (Unknown ∷ word) place h = absurd (cc h)
bit_or_zero (Error ∷ word) place h = absurd (cc h)

pub group_word-IsDefined : (input select : List Bit) (group : ℕ) → IsDefined select → IsDefined input → IsDefined (group_word input select group)
group_word-IsDefined input select group s h =
    rw (group_word-defined input select group (to_tests select s))
    (defined_map_range (λ place. get_or input place Zero) (number_of select * group) group (λ k _ _. bit_or_zero input k (to_tests input h)))
