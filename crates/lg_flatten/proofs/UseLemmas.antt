-- Components with what they are.
use Rattle.std.proofs.Common.{◌≡◌, ◌≤◌, List, [], ◌∷◌, None, refl, arith, ◌⊎◌, inl, inr}
use Rattle.std.specs.Prelude.{ℤ, ◌+ℤ◌, unsigned_abs, IsTrue}
use Rattle.std.specs.List.{zip}
use Rattle.std.specs.Iterator.Adapters.{zip_first, zip_second}
use Rattle.std.specs.Slice.Iter.{iter_rest}
use Rattle.std.specs.declared.iter.Zip.{Zip}
use Rattle.std.specs.declared.slice.Iter.{Iter}
use Rattle.std.proofs.iter.Yields.{fronts}
use Rattle.std.proofs.lemmas.Iterator.{zips}
use Rattle.std.proofs.lemmas.Slice.Zip.{either_empty_from_Zip}
use Rattle.std.proofs.lemmas.Bool.Decides.{nat_tests}
use Rattle.std.proofs.lemmas.Int.{ints, to_z-of_z}
use mir.Val.{to_z, of_z}
use mir.Syntax.{w32}
use Rattle.lg_circ.specs.declared.project.Point.{Point}
use Rattle.lg_circ.specs.Bounds.{is_on_sheet}

-- a point by its coordinates
pub point_same : (x y x' y' : ℤ) → x ≡ x' → y ≡ y' → ◌≡◌ {A = Point} (record { x = x; y = y }) (record { x = x'; y = y' })
point_same x y x' y' e f = cc

-- a coordinate on the sheet and a little more stay within 32 bits
pub sum_is : (x dx : ℤ) → unsigned_abs x ≤ 1000000 → unsigned_abs dx ≤ 70 → to_z w32 (of_z w32 (to_z w32 (of_z w32 x) +ℤ to_z w32 (of_z w32 dx))) ≡ x +ℤ dx
sum_is x dx near little = grind (arith, ints, to_z-of_z)

pub on_sheet_parts : (p : Point) → IsTrue (is_on_sheet p) → (unsigned_abs p.x ≤ 1000000) × (unsigned_abs p.y ≤ 1000000)
on_sheet_parts p h = grind (arith, nat_tests)

without : {A B : Type 0} (xs : List A) (ys : List B) → (xs ≡ []) ⊎ (ys ≡ []) → zip xs ys ≡ []
without [] ys e = refl
without (x ∷ xs) [] e = refl
without (x ∷ xs) (y ∷ ys) (inl e) = cc
without (x ∷ xs) (y ∷ ys) (inr e) = cc

-- when a loop over two lists has ended, no pairs are left
pub zip_ended : {A B : Type 0} (s t : Zip (Iter A) (Iter B)) → zips fronts fronts s None t → zip (iter_rest (zip_first s)) (iter_rest (zip_second s)) ≡ []
zip_ended s t h = without (iter_rest (zip_first s)) (iter_rest (zip_second s)) (either_empty_from_Zip s t None refl h)
