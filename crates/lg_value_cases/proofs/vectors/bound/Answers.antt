-- The two names differ.
use Rattle.std.proofs.Common.{◌≡◌, ℕ, List, [], ◌∷◌, refl}
use Rattle.std.specs.Prelude.{codes}
use Rattle.std.specs.List.{IsDistinct}
use Rattle.std.specs.Str.{bytes_eq}
use Rattle.lg_value_cases.proofs.vectors.bound.Goals as goal

two_distinct : (a b : List ℕ) → a ≡ codes "A" → b ≡ codes "B" → IsDistinct bytes_eq (a ∷ b ∷ [])
unfolding IsDistinct
two_distinct a b p q = rw (p, q) ((refl, tt), (tt, tt))

pub bind_rows-requires : goal.bind_rows-requires
bind_rows-requires c = two_distinct c.in_ok-copy_of.field-0 c.in_ok-copy_of-2.field-0 c.in_ok-copy_of.ensures c.in_ok-copy_of-2.ensures

pub bind-requires : goal.bind-requires
bind-requires c = two_distinct c.in_ok-copy_of.field-0 c.in_ok-copy_of-2.field-0 c.in_ok-copy_of.ensures c.in_ok-copy_of-2.ensures
