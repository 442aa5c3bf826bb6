-- The widths of what gates and plexers answer.
use Rattle.std.proofs.Common.{◌≡◌, ℕ, ◌*◌, ◌^◌, ◌==◌, inl, inr, Bool, true, false, cond, List, [], Option, length, replicate, refl, ap, ◌∙◌, arith}
use Rattle.std.proofs.lemmas.Bool.{cases_Bool}
use Rattle.std.proofs.lemmas.List.{length-map, length-replicate}
use Rattle.std.proofs.lemmas.List.Elements.{All-get_or}
use Rattle.std.proofs.lemmas.List.FromFn.{length-map-range_with_len}
use Rattle.lg_value.specs.declared.bit.Bit.{Bit}
use Rattle.lg_value.specs.declared.bit.Bit.TheVariants.{Zero, One, Unknown, Error}
use Rattle.lg_value.specs.Bit.{same_bit, not_bit}
use Rattle.lg_value.specs.Word.{number_of}
use Rattle.lg_value.proofs.WordLemmas.{number_of-lt, length-word_of_number}
use Rattle.lg_gates.specs.declared.gates.GateKind.{GateKind}
use Rattle.lg_gates.specs.declared.outputs.OutForm.{OutForm}
use Rattle.lg_gates.specs.Gate.{some_one, all_defined, gate_bit, lacks_inputs, gate_word}
use Rattle.lg_gates.specs.Shape.{not_word, buffer_bit, buffer_word, controlled_word, shape_bit, shape_word}
use Rattle.lg_gates.specs.Plexer.{first_width, HaveOneWidth, pick_word, spread_word, enabled_word}
use Rattle.lg_gates.specs.Priority.{greatest_one, encodes_error, priority_of}
use Rattle.lg_gates.specs.Selector.{group_word}
use Rattle.lg_gates.proofs.GateLemmas.{seen}
use Rattle.lg_gates.proofs.PlexerLemmas.{pick_word-defined, pick_word-undefined}
use Rattle.lg_gates.proofs.SelectorLemmas.{length-bits_from}

length-cond : (b : Bool) (x y : List Bit) (n : ℕ) → length x ≡ n → length y ≡ n → length (cond b x y) ≡ n
length-cond true x y n h k = h
length-cond false x y n h k = k

pub length-gate_word : (kind : GateKind) (width : ℕ) (inputs : List (Option (List Bit))) (strict : Bool) → length (gate_word kind width inputs strict) ≡ width
unfolding gate_word
length-gate_word kind width inputs strict =
    length-cond (lacks_inputs strict inputs) _ _ width (length-replicate width Error) (length-map-range_with_len (λ place. gate_bit kind (seen place inputs)) 0 width)

pub length-not_word : (word : List Bit) → length (not_word word) ≡ length word
length-not_word word = length-map word not_bit

pub length-buffer_word : (word : List Bit) → length (buffer_word word) ≡ length word
length-buffer_word word = length-map word buffer_bit

pub length-shape_word : (form : OutForm) (word : List Bit) → length (shape_word form word) ≡ length word
length-shape_word form word = length-map word (shape_bit form)

pub length-controlled_word : (invert : Bool) (input : List Bit) (control : Bit) → length (controlled_word invert input control) ≡ length input
length-controlled_word invert input One = length-cond invert (not_word input) input (length input) (length-not_word input) refl
length-controlled_word invert input Zero = length-replicate (length input) Unknown
length-controlled_word invert input Unknown = length-replicate (length input) Error
length-controlled_word invert input Error = length-replicate (length input) Error

pub length-pick_word : (select : List Bit) (items : List (List Bit)) → length items ≡ 2 ^ length select → HaveOneWidth items → length (pick_word select items) ≡ first_width items
length-pick_word select items count wide =
    elim (cases_Bool (all_defined select)) [
      | inl h ↦ ap length (pick_word-defined select items h) ∙ All-get_or (λ (item : List Bit). length item ≡ first_width items) items (number_of select) [] (omega (arith, number_of-lt select)) wide
      | inr h ↦ ap length (pick_word-undefined select items h) ∙ length-replicate (first_width items) Error
    ]

pub length-spread_word : (select input : List Bit) (place : ℕ) (off : Bit) → length (spread_word select input place off) ≡ length input
unfolding spread_word
length-spread_word select input place off =
    length-cond (all_defined select) _ _ (length input)
    (length-cond (number_of select == place) input (replicate (length input) off) (length input) refl (length-replicate (length input) off))
    (length-replicate (length input) Error)

pub length-enabled_word : (enable : Bit) (value : List Bit) (off : Bit) → length (enabled_word enable value off) ≡ length value
length-enabled_word Zero value off = length-replicate (length value) off
length-enabled_word One value off = refl
length-enabled_word Unknown value off = refl
length-enabled_word Error value off = length-replicate (length value) Error

length-first : (b : Bool) (x y : List Bit × Bit × Bit) (n : ℕ) → length x.0 ≡ n → length y.0 ≡ n → length (cond b x y).0 ≡ n
length-first true x y n h k = h
length-first false x y n h k = k

pub length-address : (inputs : List Bit) (enable : Bit) (width : ℕ) (off : Bit) → length (priority_of inputs enable width off).0 ≡ width
unfolding priority_of
length-address inputs enable width off =
    length-first (encodes_error inputs enable) _ _ width (length-replicate width Error)
    (length-first (same_bit Zero enable) _ _ width (length-replicate width off)
    (length-first (some_one inputs) _ _ width (length-word_of_number width (greatest_one inputs)) (length-replicate width off)))

pub length-group_word : (input select : List Bit) (group : ℕ) → length (group_word input select group) ≡ group
unfolding group_word
length-group_word input select group =
    length-cond (all_defined select) _ _ group (length-bits_from input (number_of select * group) group) (length-replicate group Error)
