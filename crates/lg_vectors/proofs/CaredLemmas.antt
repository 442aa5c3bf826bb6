-- Values that two numbers and a width keep.
use Rattle.std.proofs.Common.{◌≡◌, ℕ}
use Rattle.lg_value.proofs.WordLemmas.{length-word_of_number, IsDefined-word_of_number}
use Rattle.lg_vectors.specs.CaredBits.{CaredBits, IsCared, cared_of, IsKept}

-- what is kept is a value
pub IsCared-kept : (width bits care : ℕ) (value : CaredBits) → cared_of width bits care ≡ value → IsKept width bits care → IsCared width value
IsCared-kept width bits care value e kept = rw (← e) record {
  in_range = kept.in_range;
  bits_width = length-word_of_number width bits;
  care_width = length-word_of_number width care;
  bits_defined = IsDefined-word_of_number width bits;
  care_defined = IsDefined-word_of_number width care;
  rest_is_zero = kept.rest_is_zero;
}
