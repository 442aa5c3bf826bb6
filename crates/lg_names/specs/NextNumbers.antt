-- What is known of taken names: for each the next number worth trying.
use Rattle.std.specs.Prelude.{◌≡◌, ℕ, ◌+◌, ◌<◌, ◌≤◌, true, false, List, length, Option, Some, is_some}
use Rattle.lg_names.specs.Names.{is_taken, numbered_name}

-- the numbers before this one are taken for the name
pub record IsTriedTo (taken : List (List ℕ)) (name : List ℕ) (next : ℕ) : Type 0 where
  pub from_two : 2 ≤ next
  pub few : next ≤ length taken + 2
  pub before : (n : ℕ) → 2 ≤ n → n < next → is_taken taken (numbered_name name n) ≡ true

-- the names that are taken, and no others, have a next number
pub record KnowsTaken (taken : List (List ℕ)) (next : List ℕ → Option ℕ) : Type 0 where
  pub known : (name : List ℕ) → is_some (next name) ≡ is_taken taken name
  pub tried : (name : List ℕ) (n : ℕ) → next name ≡ Some n → IsTriedTo taken name n

-- the first number from 2 that is free for the name
pub record IsFirstFreeNumber (taken : List (List ℕ)) (name : List ℕ) (number : ℕ) : Type 0 where
  pub tried : IsTriedTo taken name number
  pub free : is_taken taken (numbered_name name number) ≡ false
