-- The numbers of a row of bits, in order.
use Rattle.std.proofs.Common.{◌≡◌, ◌≢◌, ℕ, zero, suc, ◌*◌, ◌/◌, ◌<◌, Bool, true, false, ltb, List, [], ◌∷◌, length, refl, sym, ap, ◌∙◌, subst, arith, ◌↔◌, inl, inr}
use Rattle.std.specs.Bool.{MatchBool}
use Rattle.std.proofs.lemmas.Bool.{cases_eq, eq-eqb, ne_eqb, lt-ltb}
use Rattle.lg_queue.specs.Row.{digit, Has, HasAdded, HasTaken, HasNone, IsLeast}
use Rattle.lg_queue.specs.Order.{StandsIn, IsRising, with_value}
use Rattle.lg_queue.specs.NumberSet.{NumberSet, numbers_below, numbers_of, with_number}
use Rattle.lg_queue.proofs.LevelLemmas.{within}
use Rattle.lg_queue.proofs.OrderLemmas.{stands_left, stands_right, stands_cases, rising_append, same_rising, stands_in_with, with_stands, with_stands_itself, with_rising, order_of_numbers}

-- a listed number is one of the row
pub listed : (words : List ℕ) (n number : ℕ) → StandsIn number (numbers_below words n) → (number < n) × Has words number
unfolding numbers_below
listed words zero number h = absurd h
listed words (suc n) number h = elim (cases_eq (digit words n) 1) [
  | inl one ↦ elim (stands_cases number (numbers_below words n) (n ∷ []) (rw (eq-eqb (digit words n) 1 one) at h)) [
    | inl s ↦ let k = listed words n number s in (omega (arith, k.0), k.1)
    | inr s ↦ elim s [ inl e ↦ (omega (arith, e), ap (digit words) e ∙ one) | inr f ↦ absurd f ]
  ]
  | inr other ↦ elim (stands_cases number (numbers_below words n) [] (rw (ne_eqb (digit words n) 1 other) at h)) [
    | inl s ↦ let k = listed words n number s in (omega (arith, k.0), k.1)
    | inr f ↦ absurd f
  ]
]

-- a number of the row is listed
pub lists : (words : List ℕ) (n number : ℕ) → number < n → Has words number → StandsIn number (numbers_below words n)
unfolding numbers_below
lists words zero number h has = absurd (omega (arith, h))
lists words (suc n) number h has = elim (cases_eq number n) [
  | inl same ↦ rw (eq-eqb (digit words n) 1 (ap (digit words) (sym same) ∙ has)) (stands_right number (numbers_below words n) (n ∷ []) (inl same))
  | inr differ ↦ stands_left number (numbers_below words n) _ (lists words n number (omega (arith, h, differ)) has)
]

pub rising_numbers : (words : List ℕ) (n : ℕ) → IsRising ltb (numbers_below words n)
unfolding numbers_below
rising_numbers words zero = tt
rising_numbers words (suc n) = elim (cases_eq (digit words n) 1) [
  | inl one ↦ rw (eq-eqb (digit words n) 1 one) (rising_append ltb (numbers_below words n) (n ∷ []) (rising_numbers words n) ((λ y s. absurd s), tt)
      (λ x y s t. elim t [ inl e ↦ lt-ltb x y (omega (arith, (listed words n x s).0, e)) | inr f ↦ absurd f ]))
  | inr other ↦ rw (ne_eqb (digit words n) 1 other) (rising_append ltb (numbers_below words n) [] (rising_numbers words n) tt (λ x y s t. absurd t))
]

-- a row without a number lists none
pub none_listed : (words : List ℕ) (n : ℕ) → HasNone words → numbers_below words n ≡ []
none_listed words n none = same_rising ltb order_of_numbers (numbers_below words n) [] (rising_numbers words n) tt
    (λ z s. absurd (omega (arith, (listed words n z s).1, none z))) (λ z s. absurd s)

pub listed_somewhere : (words : List ℕ) (number : ℕ) → Has words number → StandsIn number (numbers_of words).numbers
listed_somewhere words number has = let inside : number / 64 < length words = within words number has in lists words (64 * length words) number (omega (arith, inside)) has

abbrev set_of : ℕ → List ℕ → NumberSet
set_of room numbers = record { room = room; numbers = numbers }

-- a number that came into a row comes into its list
pub list_added : (number : ℕ) (old new : List ℕ) → number < 64 * length old → HasAdded number old new → numbers_of new ≡ with_number number (numbers_of old)
list_added number old new inside added =
    let room : 64 * length new ≡ 64 * length old = ap (λ n. 64 * n) added.length in
    let order = order_of_numbers in
    let numbers : (numbers_of new).numbers ≡ with_value ltb number (numbers_of old).numbers =
    same_rising ltb order (numbers_of new).numbers (with_value ltb number (numbers_of old).numbers) (rising_numbers new (64 * length new))
    (with_rising ltb order number (numbers_of old).numbers (rising_numbers old (64 * length old)))
    (λ z s. let k = listed new (64 * length new) z s in elim (cases_eq z number) [
      | inl same ↦ subst (λ v. StandsIn v (with_value ltb number (numbers_of old).numbers)) (sym same) (with_stands_itself ltb order number (numbers_of old).numbers)
      | inr differ ↦ with_stands ltb number (numbers_of old).numbers z (listed_somewhere old z (sym (added.others z differ) ∙ k.1))
    ])
    (λ z s. elim (stands_in_with ltb number (numbers_of old).numbers z s) [
      | inl same ↦ listed_somewhere new z (ap (digit new) same ∙ added.itself)
      | inr t ↦ let k = listed old (64 * length old) z t in elim (cases_eq z number) [
        | inl same ↦ listed_somewhere new z (ap (digit new) same ∙ added.itself)
        | inr differ ↦ listed_somewhere new z (added.others z differ ∙ k.1)
      ]
    ]) in
    ap (λ r. set_of r (numbers_of new).numbers) room ∙ ap (set_of (64 * length old)) numbers

-- what is left of a row was there
was_there : (number : ℕ) (old new : List ℕ) → HasTaken number old new → (z : ℕ) → Has new z → Has old z × (z ≢ number)
was_there number old new taken z has = elim (cases_eq z number) [
  | inl same ↦ absurd (omega (arith, ap (digit new) same, has, taken.itself))
  | inr differ ↦ (sym (taken.others z differ) ∙ has, differ)
]

-- the least number that went out of a row was the first of its list
pub list_taken : (number : ℕ) (old new : List ℕ) → IsLeast old number → HasTaken number old new → (numbers_of old).numbers ≡ number ∷ (numbers_of new).numbers
list_taken number old new least taken =
    same_rising ltb order_of_numbers (numbers_of old).numbers (number ∷ (numbers_of new).numbers) (rising_numbers old (64 * length old))
    ((λ z s. let k = was_there number old new taken z (listed new (64 * length new) z s).1 in lt-ltb number z (omega (arith, least.least z k.0, k.1))), rising_numbers new (64 * length new))
    (λ z s. let k = listed old (64 * length old) z s in elim (cases_eq z number) [
      | inl same ↦ inl same
      | inr differ ↦ inr (listed_somewhere new z (taken.others z differ ∙ k.1))
    ])
    (λ z s. elim s [
      | inl same ↦ listed_somewhere old z (ap (digit old) same ∙ least.has)
      | inr t ↦ listed_somewhere old z (was_there number old new taken z (listed new (64 * length new) z t).1).0
    ])

-- the first number of a list is one of the row
some_listed : (words numbers : List ℕ) → (numbers_of words).numbers ≡ numbers → numbers ≢ [] → (number : ℕ) × Has words number
some_listed words [] is some = absurd (some refl)
some_listed words (x ∷ xs) is some = (x, (listed words (64 * length words) x (subst (λ l. StandsIn x l) (sym is) (inl refl))).1)

-- a row that doesn't list nothing has a number
pub some_number : (words : List ℕ) → (numbers_of words).numbers ≢ [] → (number : ℕ) × Has words number
some_number words some = some_listed words (numbers_of words).numbers refl some

-- a row lists nothing where it has no number
pub empty_list : (words : List ℕ) (empty : Bool) → MatchBool empty (HasNone words) ((number : ℕ) × Has words number) → (empty ≡ true) ↔ ((numbers_of words).numbers ≡ [])
empty_list words true none = ((λ _. none_listed words (64 * length words) none), (λ _. refl))
empty_list words false some = ((λ f. cc), (λ e. absurd (subst (λ l. StandsIn some.0 l) e (listed_somewhere words some.0 some.1))))
