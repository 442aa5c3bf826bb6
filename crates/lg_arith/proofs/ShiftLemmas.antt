-- Bits that move in a word.
use Rattle.std.proofs.Common.{◌≡◌, ℕ, ◌+◌, ◌-◌, ◌%◌, ◌≤◌, true, false, cond, List, [], ◌∷◌, ◌++◌, length, length-take-le, length-append, length-take, take, drop, replicate, sym, ap, ◌∙◌, refl, arith}
use Rattle.std.proofs.Math.Seq.{take-append-add}
use Rattle.std.proofs.lemmas.List.{take-append-le, take-replicate, take_rest, length-replicate, length-drop, drop_all}
use Rattle.lg_value.specs.declared.bit.Bit.{Bit}
use Rattle.lg_value.specs.declared.bit.Bit.TheVariants.{Zero, Error}
use Rattle.lg_value.specs.Word.{number_of}
use Rattle.lg_arith.specs.declared.shifter.ShiftKind.{ShiftKind}
use Rattle.lg_arith.specs.declared.shifter.ShiftKind.TheVariants.{Left, Right, Arith, RollLeft, RollRight}
use Rattle.lg_arith.specs.Operands.{are_defined, top_bit}
use Rattle.lg_arith.specs.Shift.{moved_left, moved_right, turned, moved, shift_of}

take-append-past : (n : ℕ) (low high : List Bit) → length low ≤ n → take n (low ++ high) ≡ low ++ take (n - length low) high
take-append-past n low high inside =
    let split : length low + (n - length low) ≡ n = omega arith in
    rw split at (take-append-add low high (n - length low))

-- moved by the width or more, and by less
pub moved_left_out : (a : List Bit) (distance : ℕ) → length a ≤ distance → moved_left a distance ≡ replicate (length a) Zero
moved_left_out a distance out =
    let zeros : length (replicate distance Zero) ≡ distance = length-replicate distance Zero in
    take-append-le (length a) (replicate distance Zero) a (omega arith) ∙ take-replicate (length a) distance Zero out

pub moved_left_in : (a : List Bit) (distance : ℕ) → distance ≤ length a → moved_left a distance ≡ replicate distance Zero ++ take (length a - distance) a
moved_left_in a distance inside =
    let zeros : length (replicate distance Zero) ≡ distance = length-replicate distance Zero in
    let split = take-append-past (length a) (replicate distance Zero) a (omega arith) in
    rw zeros at split

pub moved_right_out : (above : Bit) (a : List Bit) (distance : ℕ) → length a ≤ distance → moved_right above a distance ≡ replicate (length a) above
moved_right_out above a distance out =
    rw (drop_all distance a out) (take-replicate (length a) (length a) above (omega arith))

pub moved_right_in : (above : Bit) (a : List Bit) (distance : ℕ) → distance ≤ length a → moved_right above a distance ≡ take (length a - distance) (drop distance a) ++ replicate distance above
moved_right_in above a distance inside =
    let low : length (drop distance a) ≡ length a - distance = length-drop distance a in
    let split : moved_right above a distance ≡ drop distance a ++ take (length a - length (drop distance a)) (replicate (length a) above) =
    take-append-past (length a) (drop distance a) (replicate (length a) above) (omega arith) in
    let rest : length a - length (drop distance a) ≡ distance = omega arith in
    split ∙ ap (λ n. drop distance a ++ take n (replicate (length a) above)) rest
    ∙ ap (λ x. drop distance a ++ x) (take-replicate distance (length a) above inside)
    ∙ ap (λ x. x ++ replicate distance above) (sym (take_rest a distance))

pub shift_undefined : (kind : ShiftKind) (a distance : List Bit) → are_defined (a ∷ distance ∷ []) ≡ false → shift_of kind a distance ≡ replicate (length a) Error
unfolding shift_of
shift_undefined kind a distance h = rw h refl

pub shift_defined : (kind : ShiftKind) (a distance : List Bit) → are_defined (a ∷ distance ∷ []) ≡ true → shift_of kind a distance ≡ moved kind a (number_of distance)
unfolding shift_of
shift_defined kind a distance h = rw h refl

length-turned : (a : List Bit) (place : ℕ) → length (turned a place) ≡ length a
length-turned a place = simp (length-append, length-take, length-drop) (omega arith)

length-moved : (kind : ShiftKind) (a : List Bit) (distance : ℕ) → length (moved kind a distance) ≡ length a
length-moved Left a distance = length-take-le (length a) (replicate distance Zero ++ a) (simp length-append (omega arith))
length-moved Right a distance =
    length-take-le (length a) (drop distance a ++ replicate (length a) Zero) (simp (length-append, length-replicate) (omega arith))
length-moved Arith a distance =
    length-take-le (length a) (drop distance a ++ replicate (length a) (top_bit a)) (simp (length-append, length-replicate) (omega arith))
length-moved RollLeft a distance = length-turned a (length a - distance % length a)
length-moved RollRight a distance = length-turned a (distance % length a)

pub length-shift_of : (kind : ShiftKind) (a distance : List Bit) → length (shift_of kind a distance) ≡ length a
unfolding shift_of
length-shift_of kind a distance =
    elim (are_defined (a ∷ distance ∷ [])) as (λ b. length (cond b (moved kind a (number_of distance)) (replicate (length a) Error)) ≡ length a) [
      | true ↦ length-moved kind a (number_of distance)
      | false ↦ length-replicate (length a) Error
    ]
