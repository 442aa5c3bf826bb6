use Rattle.std.proofs.Common.{◌≡◌, ℕ, ◌<◌, Some}
use Rattle.std.specs.Prelude.{slice_get}
use Rattle.lg_value.specs.declared.bit.Bit.TheVariants.{One}
use Rattle.lg_vectors.proofs.cared.passes.Given as goal

-- the places so far pass
abbrev pub invariant-loop-place : goal.invariant-loop-place
invariant-loop-place l = (place : ℕ) → place < l.place → slice_get l.wanted.care place ≡ Some One → slice_get l.got place ≡ slice_get l.wanted.bits place
