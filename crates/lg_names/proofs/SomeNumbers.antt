-- All labels have numbers.
use Rattle.std.proofs.Common.{◌≡◌, ℕ, zero, suc, ◌+◌, ◌<◌, ◌≤◌, List, [], ◌∷◌, ◌++◌, length, get_or, set, Option, Some, None, refl, subst, arith, add-one, replicate}
use Rattle.lg_names.specs.Numbering.{IsNumbering}
use Rattle.lg_names.proofs.NumberingLemmas.{AreNumbered, AreNumbered-start, AreNumbered-known, AreNumbered-next, IsNumbering-from_all}

-- a number that is greater than each label
abbrev IsAbove : List ℕ → ℕ → Type 0
IsAbove labels bound = (i : ℕ) → i < length labels → get_or labels i 0 < bound

bound_exists : (labels : List ℕ) → (bound : ℕ) × IsAbove labels bound
bound_exists [] = (0, λ i less. absurd (omega arith))
bound_exists (label ∷ labels) = more (bound_exists labels)
  where
    more : (bound : ℕ) × IsAbove labels bound → (bound : ℕ) × IsAbove (label ∷ labels) bound
    more (bound, above) = (label + 1 + bound, below)
      where
        below : IsAbove (label ∷ labels) (label + 1 + bound)
        below zero less = omega arith
        below (suc i) less = omega (arith, above i (omega arith))

-- the first labels are numbered, whatever is known of them
record SomeNumbered (bound : ℕ) (labels : List ℕ) (done : ℕ) : Type 0 where
  pub known : List (Option ℕ)
  pub numbers : List ℕ
  pub count : ℕ
  pub are : AreNumbered bound labels done known numbers count

one_more : (bound : ℕ) (labels : List ℕ) (done : ℕ) → get_or labels done 0 < bound → SomeNumbered bound labels done → SomeNumbered bound labels (done + 1)
one_more bound labels done small s = by_known (get_or s.known (get_or labels done 0) None) refl
  where
    by_known : (o : Option ℕ) → get_or s.known (get_or labels done 0) None ≡ o → SomeNumbered bound labels (done + 1)
    by_known None e = record {
      known = set s.known (get_or labels done 0) (Some s.count);
      numbers = s.numbers ++ s.count ∷ [];
      count = s.count + 1;
      are = AreNumbered-next bound labels done s.known s.numbers s.count s.are small e;
    }
    by_known (Some number) e = record { known = s.known; numbers = s.numbers ++ number ∷ []; count = s.count; are = AreNumbered-known bound labels done s.known s.numbers s.count number s.are e }

numbered_up_to : (bound : ℕ) (labels : List ℕ) → IsAbove labels bound → (done : ℕ) → done ≤ length labels → SomeNumbered bound labels done
numbered_up_to bound labels above zero few = record { known = replicate bound None; numbers = []; count = 0; are = AreNumbered-start bound labels (replicate bound None) refl }
numbered_up_to bound labels above (suc done) few = subst (SomeNumbered bound labels) (add-one done) (one_more bound labels done (above done (omega arith)) (numbered_up_to bound labels above done (omega arith)))

pub numbers_exist : (labels : List ℕ) → (numbers : List ℕ) × (count : ℕ) × IsNumbering ◌≡◌ labels numbers count
numbers_exist labels = from_bound (bound_exists labels)
  where
    finished : (bound : ℕ) → SomeNumbered bound labels (length labels) → (numbers : List ℕ) × (count : ℕ) × IsNumbering ◌≡◌ labels numbers count
    finished bound s = (s.numbers, s.count, IsNumbering-from_all bound labels s.numbers s.known s.count s.are)

    from_bound : (bound : ℕ) × IsAbove labels bound → (numbers : List ℕ) × (count : ℕ) × IsNumbering ◌≡◌ labels numbers count
    from_bound (bound, above) = finished bound (numbered_up_to bound labels above (length labels) (omega arith))
