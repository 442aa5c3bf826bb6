-- Words in another width.
use Rattle.std.proofs.Common.{◌≡◌, ℕ, List, length, arith, length-append, length-take}
use Rattle.std.proofs.lemmas.List.{length-replicate}
use Rattle.lg_value.specs.declared.bit.Bit.{Bit}
use Rattle.lg_arith.specs.declared.extension.Extend.{Extend}
use Rattle.lg_arith.specs.Extend.{extended}

pub length-extended : (a : List Bit) (width : ℕ) (how : Extend) → length (extended a width how) ≡ width
length-extended a width how = simp (length-append, length-take, length-replicate) (omega arith)
