-- Products of operands that are not defined, and of those that are.
use Rattle.std.proofs.Common.{◌≡◌, ◌/◌, ◌^◌, true, false, List, length, replicate}
use Rattle.lg_value.specs.declared.bit.Bit.{Bit}
use Rattle.lg_value.specs.declared.bit.Bit.TheVariants.{Error}
use Rattle.lg_value.specs.Word.{word_of_number}
use Rattle.lg_arith.specs.Operands.{are_defined}
use Rattle.lg_arith.specs.Product.{product_operands, whole_product, low_product_of, high_product_of}
use Rattle.lg_arith.proofs.OperandLemmas.{length-word_output, word_output_undefined, word_output_defined}

pub length-low_product_of : (a b c : List Bit) → length (low_product_of a b c) ≡ length a
unfolding low_product_of
length-low_product_of a b c = length-word_output (product_operands a b c) (length a) (whole_product a b c)

pub low_product_undefined : (a b c : List Bit) → are_defined (product_operands a b c) ≡ false → low_product_of a b c ≡ replicate (length a) Error
unfolding low_product_of
low_product_undefined a b c h = word_output_undefined (product_operands a b c) (length a) (whole_product a b c) h

pub low_product_defined : (a b c : List Bit) → are_defined (product_operands a b c) ≡ true → low_product_of a b c ≡ word_of_number (length a) (whole_product a b c)
unfolding low_product_of
low_product_defined a b c h = word_output_defined (product_operands a b c) (length a) (whole_product a b c) h

pub length-high_product_of : (a b c : List Bit) → length (high_product_of a b c) ≡ length a
unfolding high_product_of
length-high_product_of a b c = length-word_output (product_operands a b c) (length a) (whole_product a b c / 2 ^ length a)

pub high_product_undefined : (a b c : List Bit) → are_defined (product_operands a b c) ≡ false → high_product_of a b c ≡ replicate (length a) Error
unfolding high_product_of
high_product_undefined a b c h = word_output_undefined (product_operands a b c) (length a) (whole_product a b c / 2 ^ length a) h

pub high_product_defined : (a b c : List Bit) → are_defined (product_operands a b c) ≡ true → high_product_of a b c ≡ word_of_number (length a) (whole_product a b c / 2 ^ length a)
unfolding high_product_of
high_product_defined a b c h = word_output_defined (product_operands a b c) (length a) (whole_product a b c / 2 ^ length a) h
