-- Points with equal coordinates are equal.
use Rattle.std.proofs.Common.{◌≡◌, true, ◌&&◌}
use Rattle.std.specs.Prelude.{ℤ}
use Rattle.std.specs.Ordering.{int_eq}
use Rattle.std.proofs.lemmas.Bool.{and_parts}
use Rattle.std.proofs.lemmas.Bool.Decides.{Decides-int_eq}
use Rattle.lg_circ.specs.declared.project.Point.{Point}

abbrev point : ℤ → ℤ → Point
point x y = record { x = x; y = y }

both_same : (x y x' y' : ℤ) → x ≡ x' → y ≡ y' → point x y ≡ point x' y'
both_same x y x' y' e f = cc

pub one_point : (p q : Point) → p.x ≡ q.x → p.y ≡ q.y → p ≡ q
one_point p q e f = both_same p.x p.y q.x q.y e f

-- the same from the test of the coordinates
pub point_eq : (p q : Point) → (int_eq p.x q.x && int_eq p.y q.y) ≡ true → p ≡ q
point_eq p q h =
    let parts = and_parts (int_eq p.x q.x) (int_eq p.y q.y) h in
    one_point p q ((Decides-int_eq p.x q.x).0 parts.0) ((Decides-int_eq p.y q.y).0 parts.1)
