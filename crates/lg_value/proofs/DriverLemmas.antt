-- The join of a wire's drivers by which values are among them.
use Rattle.std.proofs.Common.{ℕ, ◌+◌, ◌<◌, length, get_or, take, ◌≡◌, Bool, true, false, cond, List, [], ◌∷◌, ◌++◌, sym, refl, ap, ◌∙◌}
use Rattle.std.specs.Prelude.{◌&&◌, ◌||◌, not}
use Rattle.std.specs.List.{fold, list_all, list_any}
use Rattle.std.specs.List.Sorted.{IsPermutation}
use Rattle.std.proofs.lemmas.List.{take_more}
use Rattle.std.proofs.lemmas.List.Folds.{list_any-append}
use Rattle.std.proofs.lemmas.List.Sorted.{list_any-IsPermutation}
use Rattle.lg_value.specs.declared.bit.Bit.{Bit}
use Rattle.lg_value.specs.declared.bit.Bit.TheVariants.{Zero, One, Unknown, Error}
use Rattle.lg_value.specs.Bit.{same_bit, join_bits, equal_from_same_bit}
use Rattle.lg_value.specs.Drivers.{all_unknown, join_of_drivers, joined_in_turn}
use Rattle.lg_value.proofs.BitLemmas.{each_bool, at_bool, join_bits_assoc, join_bits_unknown}

or-true : (p : Bool) → (p || true) ≡ true
or-true p = elim p as (λ x. (x || true) ≡ true) [ true ↦ refl | false ↦ refl ]

-- the join, by whether a Zero, a One and an Error are among the drivers
abbrev join_of_found : Bool → Bool → Bool → Bit
join_of_found zero one error =
    cond (not (zero || (one || error))) Unknown
    (cond (zero && not (one || error)) Zero
    (cond (one && not (zero || error)) One
    Error))

abbrev found : Bit → List Bit → Bool
found value drivers = list_any (same_bit value) drivers

all_unknown-found : (drivers : List Bit) → all_unknown drivers ≡ not (found Zero drivers || (found One drivers || found Error drivers))
all_unknown-found [] = refl
all_unknown-found (Zero ∷ rest) = refl
all_unknown-found (One ∷ rest) = ap not (sym (or-true (found Zero rest)))
all_unknown-found (Unknown ∷ rest) = all_unknown-found rest
all_unknown-found (Error ∷ rest) =
    ap not (sym (ap (λ x. found Zero rest || x) (or-true (found One rest)) ∙ or-true (found Zero rest)))

no_other-zero : (drivers : List Bit) → list_all (λ driver. same_bit Unknown driver || same_bit Zero driver) drivers ≡ not (found One drivers || found Error drivers)
no_other-zero [] = refl
no_other-zero (Zero ∷ rest) = no_other-zero rest
no_other-zero (One ∷ rest) = refl
no_other-zero (Unknown ∷ rest) = no_other-zero rest
no_other-zero (Error ∷ rest) = ap not (sym (or-true (found One rest)))

no_other-one : (drivers : List Bit) → list_all (λ driver. same_bit Unknown driver || same_bit One driver) drivers ≡ not (found Zero drivers || found Error drivers)
no_other-one [] = refl
no_other-one (Zero ∷ rest) = refl
no_other-one (One ∷ rest) = no_other-one rest
no_other-one (Unknown ∷ rest) = no_other-one rest
no_other-one (Error ∷ rest) = ap not (sym (or-true (found Zero rest)))

join_of_drivers-found : (drivers : List Bit) → join_of_drivers drivers ≡ join_of_found (found Zero drivers) (found One drivers) (found Error drivers)
unfolding join_of_drivers
join_of_drivers-found drivers =
    rw (all_unknown-found drivers, no_other-zero drivers, no_other-one drivers) refl

join_of_found-or : (a b c p q r : Bool) → join_bits (join_of_found a b c) (join_of_found p q r) ≡ join_of_found (a || p) (b || q) (c || r)
join_of_found-or a b c p q r =
    let test : Bool → Bool → Bool → Bool → Bool → Bool → Bool =
    λ a b c p q r. same_bit (join_bits (join_of_found a b c) (join_of_found p q r)) (join_of_found (a || p) (b || q) (c || r)) in
    equal_from_same_bit (join_bits (join_of_found a b c) (join_of_found p q r)) (join_of_found (a || p) (b || q) (c || r))
    (at_bool (test a b c p q)
    (at_bool (λ q. each_bool (test a b c p q))
    (at_bool (λ p. each_bool (λ q. each_bool (test a b c p q)))
    (at_bool (λ c. each_bool (λ p. each_bool (λ q. each_bool (test a b c p q))))
    (at_bool (λ b. each_bool (λ c. each_bool (λ p. each_bool (λ q. each_bool (test a b c p q)))))
    (at_bool (λ a. each_bool (λ b. each_bool (λ c. each_bool (λ p. each_bool (λ q. each_bool (test a b c p q)))))) refl a)
    b)
    c)
    p)
    q)
    r)

-- the drivers in two parts
pub join_of_drivers-append : (low more : List Bit) → join_of_drivers (low ++ more) ≡ join_bits (join_of_drivers low) (join_of_drivers more)
join_of_drivers-append low more =
    rw (
      join_of_drivers-found (low ++ more),
      join_of_drivers-found low,
      join_of_drivers-found more,
      list_any-append (same_bit Zero) low more,
      list_any-append (same_bit One) low more,
      list_any-append (same_bit Error) low more,
    )
    (sym (join_of_found-or (found Zero low) (found One low) (found Error low) (found Zero more) (found One more) (found Error more)))

pub join_of_drivers_nil : join_of_drivers [] ≡ Unknown
unfolding join_of_drivers
join_of_drivers_nil = refl

pub join_of_drivers_one : (driver : Bit) → join_of_drivers (driver ∷ []) ≡ driver
unfolding join_of_drivers
join_of_drivers_one driver =
    elim driver as (λ x. join_of_drivers (x ∷ []) ≡ x) [ Zero ↦ refl | One ↦ refl | Unknown ↦ refl | Error ↦ refl ]

pub join_of_drivers-cons : (driver : Bit) (rest : List Bit) → join_of_drivers (driver ∷ rest) ≡ join_bits driver (join_of_drivers rest)
join_of_drivers-cons driver rest =
    join_of_drivers-append (driver ∷ []) rest ∙ ap (λ x. join_bits x (join_of_drivers rest)) (join_of_drivers_one driver)

-- one more driver at the end
pub join_of_drivers_push : (low : List Bit) (driver : Bit) → join_of_drivers (low ++ driver ∷ []) ≡ join_bits (join_of_drivers low) driver
join_of_drivers_push low driver =
    join_of_drivers-append low (driver ∷ []) ∙ ap (λ x. join_bits (join_of_drivers low) x) (join_of_drivers_one driver)

-- one more driver, as at a step of a loop
pub join_of_drivers_more : (drivers : List Bit) (i : ℕ) (d : Bit) → i < length drivers → join_of_drivers (take (i + 1) drivers) ≡ join_bits (join_of_drivers (take i drivers)) (get_or drivers i d)
join_of_drivers_more drivers i d inside =
    ap join_of_drivers (take_more drivers i d inside) ∙ join_of_drivers_push (take i drivers) (get_or drivers i d)

-- what a loop that joins drivers needs
pub ruleset driver_steps = (join_of_drivers_nil, join_of_drivers_more, join_of_drivers_push)

pub join_of_drivers_pair : (a b : Bit) → join_of_drivers (a ∷ b ∷ []) ≡ join_bits a b
join_of_drivers_pair a b = join_of_drivers-cons a (b ∷ []) ∙ ap (λ x. join_bits a x) (join_of_drivers_one b)

fold_from : (start : Bit) (drivers : List Bit) → fold join_bits start drivers ≡ join_bits start (join_of_drivers drivers)
fold_from start [] = sym (ap (λ x. join_bits start x) join_of_drivers_nil ∙ join_bits_unknown start)
fold_from start (driver ∷ rest) =
    fold_from (join_bits start driver) rest
    ∙ join_bits_assoc start driver (join_of_drivers rest)
    ∙ ap (λ x. join_bits start x) (sym (join_of_drivers-cons driver rest))

-- joined two at a time, the drivers give their join
pub joined_in_turn_lem : (drivers : List Bit) → joined_in_turn drivers ≡ join_of_drivers drivers
joined_in_turn_lem drivers = fold_from Unknown drivers

-- another order gives the same join
pub join_of_drivers-IsPermutation : (drivers other : List Bit) → IsPermutation drivers other → join_of_drivers other ≡ join_of_drivers drivers
join_of_drivers-IsPermutation drivers other moved =
    rw (
      join_of_drivers-found other,
      join_of_drivers-found drivers,
      list_any-IsPermutation (same_bit Zero) drivers other moved,
      list_any-IsPermutation (same_bit One) drivers other moved,
      list_any-IsPermutation (same_bit Error) drivers other moved,
    ) refl

-- joined two at a time in any order, the drivers give their join
pub joined_in_turn-IsPermutation : (drivers other : List Bit) → IsPermutation drivers other → joined_in_turn other ≡ join_of_drivers drivers
joined_in_turn-IsPermutation drivers other moved =
    joined_in_turn_lem other ∙ join_of_drivers-IsPermutation drivers other moved
